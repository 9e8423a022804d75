use mathlib.Core.Path.{◌≡◌}
use Prim.Native.Nat.{◌-◌, ◌≤◌}
use Rattle.law.specs.Every.{every}
use Rattle.matrix_shape.specs.Rows.{at}
use Rattle.plan_inside.specs.Half.{half_ok}
use Rattle.plan_inside.proofs.inside.rows_ok.Given as goal

abbrev pub invariant-loop-r : goal.invariant-loop-r
invariant-loop-r l = (l.r ≤ l.pattern.n)
    × (l.ok ≡ every (half_ok (at l.pattern.row_offsets.now) (at l.pattern.cols.now) (at l.pattern.diagonal.now) (at l.plan.inv_perm.now) (at l.plan.first.now)) 0 l.r)

abbrev pub decreases-loop-r : goal.decreases-loop-r
decreases-loop-r l = l.pattern.n - l.r
