use mathlib.Core.Path.{◌≡◌}
use Prim.Native.Nat.{◌-◌, ◌≤◌}
use Rattle.law.specs.Every.{every}
use Rattle.matrix_shape.specs.Rows.{at}
use Rattle.plan_fits.specs.Fits.{back_ok}
use Rattle.plan_test.proofs.plan.undoes.Given as goal

abbrev pub invariant-loop-i : goal.invariant-loop-i
invariant-loop-i l = (l.i ≤ l.n) × (l.ok ≡ every (back_ok l.n (at l.a) (at l.b)) 0 l.i)

abbrev pub decreases-loop-i : goal.decreases-loop-i
decreases-loop-i l = l.n - l.i
