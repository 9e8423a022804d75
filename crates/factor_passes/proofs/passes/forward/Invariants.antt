use mathlib.Core.Path.{◌≡◌}
use Rattle.law.specs.Loop.{over}
use Rattle.matrix_shape.specs.Rows.{at}
use Rattle.plan_fits.specs.Cells.{look}
use Rattle.factor_passes.specs.Passes.{forward_step}
use Rattle.factor_passes.proofs.passes.forward.Given as goal

abbrev pub invariant-loop-i : goal.invariant-loop-i
invariant-loop-i l = l.y ≡ over (forward_step (at l.plan.first.now) (look (at l.plan.first.now) (at l.plan.row_start.now) l.values)) 0 l.i l.initial.y
