use mathlib.Core.Path.{◌≡◌}
use Prim.Native.Nat.{◌≤◌}
use lib.ListN.{length}
use Rattle.matrix_shape.specs.Rows.{at}
use Rattle.matrix_walk.specs.Walk.{Going}
use Rattle.matrix_walk.proofs.rows.lower_ok.Given as goal

abbrev pub invariant-loop-k : goal.invariant-loop-k
invariant-loop-k l = (l.a ≤ l.k) × (l.k ≤ l.b) × (length l.next ≡ length l.initial.next) × Going l.m (at l.cols) (at l.initial.next) l.r l.b l.k l.ceiling
    (at l.next)
