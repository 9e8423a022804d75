use mathlib.Core.Path.{◌≡◌}
use Prim.Native.Nat.{◌+◌, ◌-◌}
use Rattle.law.specs.Loop.{over}
use Rattle.matrix_shape.specs.Rows.{at}
use Rattle.plan_fits.specs.Cells.{look}
use Rattle.factor_passes.specs.Passes.{back_step}
use Rattle.factor_passes.proofs.passes.backward.Given as goal

abbrev pub invariant-loop-i : goal.invariant-loop-i
invariant-loop-i l = l.y ≡ over (λ j. back_step (at l.plan.first.now) (look (at l.plan.first.now) (at l.plan.row_start.now) l.values) (l.m - (j + 1)))
    0 (l.m - l.i) l.initial.y
