use mathlib.Core.Path.{◌≡◌}
use lib.ListN.{length}
use Rattle.law.specs.Every.{every}
use Rattle.matrix_walk.specs.Cursors.{end_ok}
use Rattle.matrix_shape.specs.Rows.{at}
use Rattle.matrix_walk.proofs.rows.ends_ok.Given as goal

abbrev pub invariant-loop-cursor : goal.invariant-loop-cursor
invariant-loop-cursor l = l.ok ≡ every (end_ok (at l.next) (at l.row_offsets)) 0 (length l.yielded)
