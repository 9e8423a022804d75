use mathlib.Core.Path.{◌∙◌}
use Rattle.plan_make.specs.Parts.{order_met}
use Rattle.plan_make.proofs.inner.measure.Goals as goal

pub returns : goal.returns
returns c =
    let w = c.reverse_cuthill_mckee in
    order_met c.args.graph.now c.requires.0 _ _ _ w.ensures (rw (w.auto.level ∙ c.requires.1.level) at c.invert.ensures) c.envelope.ensures
