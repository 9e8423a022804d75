use mathlib.Core.Path.{◌≡◌}
use lib.ListN.{drop}
use Rattle.matrix_shape.specs.Rows.{at}
use Rattle.plan_layout.specs.Leftmost.{along_row}
use Rattle.plan_layout.proofs.rows.leftmost.Given as goal

abbrev pub invariant-loop-c : goal.invariant-loop-c
invariant-loop-c l = along_row (at l.inverse) l.least (drop l.c-index l.row) ≡ along_row (at l.inverse) l.b l.row
