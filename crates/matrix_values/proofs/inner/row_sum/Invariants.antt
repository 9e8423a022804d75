use mathlib.Core.Path.{◌≡◌}
use Prim.Native.Nat.{◌-◌, ◌≤◌}
use Rattle.matrix_values.specs.Product.{row_sum}
use Rattle.matrix_values.proofs.inner.row_sum.Given as goal

abbrev pub invariant-loop-k : goal.invariant-loop-k
invariant-loop-k l = (l.a ≤ l.k) × (l.k ≤ l.b) × (l.sum ≡ row_sum l.cols l.blocks l.x l.a l.k)

abbrev pub decreases-loop-k : goal.decreases-loop-k
decreases-loop-k l = l.b - l.k
