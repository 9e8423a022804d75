use mathlib.Core.Path.{◌≡◌}
use Rattle.law.specs.Loop.{over}
use Rattle.matrix_shape.specs.Rows.{at}
use Rattle.factor_row.specs.Row.{entry_step}
use Rattle.factor_row.proofs.row.left.Given as goal

abbrev pub invariant-loop-j : goal.invariant-loop-j
invariant-loop-j l = l.values ≡ over (entry_step (at l.plan.first.now) (at l.plan.row_start.now) l.low l.begin) l.low l.j l.initial.values
