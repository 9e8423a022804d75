use mathlib.Core.Path.{sym, ◌∙◌}
use Rattle.plan_layout.specs.Ordering.{inverse_long}
use Rattle.plan_make.specs.Parts.{firsts_most, laid_out}
use Rattle.plan_make.proofs.inner.settle.Goals as goal

pub copy-requires-2 : goal.copy-requires-2
copy-requires-2 c = inverse_long c.args.ordered.now ∙ sym c.requires.inverse

pub fill_starts-requires-clause-by_index : goal.fill_starts-requires-clause-by_index
fill_starts-requires-clause-by_index c = firsts_most _ _ _ _ _ c.fill_first.ensures

pub returns : goal.returns
returns c =
    laid_out _ _ _ _ _ _ _ _ _ _ c.if-len-gt-ENVELOPE.false c.copy.ensures
    (c.copy-2.ensures ∙ c.args.ordered.now.undone) c.fill_first.ensures c.fill_starts.ensures
