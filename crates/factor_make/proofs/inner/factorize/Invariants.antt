use mathlib.Core.Path.{◌≡◌}
use Rattle.std.specs.Prelude.{Ok}
use Rattle.law.specs.Loop.{over}
use Rattle.matrix_shape.specs.Rows.{at}
use Rattle.factor_make.specs.Factor.{state, row_step}
use Rattle.factor_make.proofs.inner.factorize.Given as goal

abbrev pub invariant-loop-i : goal.invariant-loop-i
invariant-loop-i l = state (Ok tt) l.values ≡ over (row_step (at l.plan.first.now) (at l.plan.row_start.now)) 0 l.i (state (Ok tt) l.initial.values)
