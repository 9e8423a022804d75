use mathlib.Core.Path.{◌≡◌}
use Prim.Native.Nat.{ℕ, ◌<◌}
use Rattle.matrix_shape.specs.Rows.{at}
use Rattle.plan_layout.proofs.tables.invert.Given as goal

abbrev pub invariant-loop-i : goal.invariant-loop-i
invariant-loop-i l = (j : ℕ) → j < l.i → at l.inverse (at l.order j) ≡ j
