use mathlib.Core.Path.{◌≡◌}
use Rattle.law.specs.Loop.{over}
use Rattle.matrix_shape.specs.Rows.{at}
use Rattle.factor_load.specs.Load.{row_into}
use Rattle.factor_load.proofs.inner.load.Given as goal

abbrev pub invariant-loop-r : goal.invariant-loop-r
invariant-loop-r l = l.values ≡ over (row_into (at l.pattern.row_offsets.now) (at l.pattern.cols.now) l.blocks
    (at l.plan.inv_perm.now) (at l.plan.first.now) (at l.plan.row_start.now)) 0 l.r l.initial.values
