use mathlib.Core.Path.{◌≡◌}
use mathlib.Core.Bool.{true}
use Prim.Native.Nat.{ℕ, ◌-◌, ◌≤◌, ◌<◌}
use lib.ListN.{length}
use Rattle.law.specs.Every.{every}
use Rattle.matrix_shape.specs.Rows.{at}
use Rattle.matrix_walk.specs.Cursors.{line_ok, cursor}
use Rattle.matrix_walk.proofs.rows.lines_ok.Given as goal

abbrev pub invariant-loop-r : goal.invariant-loop-r
invariant-loop-r l = (l.r ≤ l.pattern.n) × (length l.next ≡ length l.initial.next) × (every (line_ok l.m (at l.pattern.row_offsets.now) (at l.pattern.cols.now) (at l.pattern.diagonal.now)) 0 l.r ≡ true)
    × ((j : ℕ) → j < l.r → at l.next j ≡ cursor (at l.pattern.row_offsets.now) (at l.pattern.cols.now) (at l.pattern.diagonal.now) l.r j)

abbrev pub decreases-loop-r : goal.decreases-loop-r
decreases-loop-r l = l.pattern.n - l.r
