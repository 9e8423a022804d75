use mathlib.Core.Path.{◌≡◌}
use Prim.Native.Nat.{◌-◌, ◌≤◌}
use Rattle.law.specs.Every.{every}
use Rattle.matrix_shape.specs.Rows.{at}
use Rattle.plan_inside.specs.Half.{two_ok}
use Rattle.plan_inside.proofs.inside.slots_ok.Given as goal

abbrev pub invariant-loop-k : goal.invariant-loop-k
invariant-loop-k l = (l.a ≤ l.k) × (l.k ≤ l.b) × (l.ok ≡ every (two_ok (at l.cols) (at l.plan.inv_perm.now) (at l.plan.first.now) l.i l.low) l.a l.k)

abbrev pub decreases-loop-k : goal.decreases-loop-k
decreases-loop-k l = l.b - l.k
