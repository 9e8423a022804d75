use mathlib.Core.Path.{◌∙◌}
use Rattle.plan_make.specs.Parts.{made_met}
use Rattle.plan_make.proofs.inner.plan.Goals as goal

pub returns : goal.returns
returns c =
    made_met c.args.graph.now c.requires.0 _ _ _ c.measure-len.ensures _ _ _ c.settle.ensures
    (rw (c.measure-len.auto.queue ∙ c.requires.1.1.queue) at c.clear_all.ensures)
