use mathlib.Core.Path.{◌≡◌}
use Prim.Native.Nat.{◌-◌, ◌≤◌}
use lib.ListN.{length}
use Rattle.law.specs.Mix.{mix}
use Rattle.matrix_shape.specs.Rows.{at}
use Rattle.matrix_values.specs.Product.{product_at}
use Rattle.matrix_values.proofs.inner.mul.Given as goal

abbrev pub invariant-loop-r : goal.invariant-loop-r
invariant-loop-r l = (l.r ≤ l.pattern.n) × (l.start ≡ at l.pattern.row_offsets.now l.r) × (l.out ≡ mix 2 l.r (product_at l.pattern.row_offsets.now l.pattern.cols.now l.blocks l.x) l.initial.out) × (length l.out ≡ length l.initial.out)

abbrev pub decreases-loop-r : goal.decreases-loop-r
decreases-loop-r l = l.pattern.n - l.r
