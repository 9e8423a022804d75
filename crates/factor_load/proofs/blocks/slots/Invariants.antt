use mathlib.Core.Path.{◌≡◌}
use Rattle.law.specs.Loop.{over}
use Rattle.matrix_shape.specs.Rows.{at}
use Rattle.factor_load.specs.Load.{slot_into}
use Rattle.factor_load.proofs.blocks.slots.Given as goal

abbrev pub invariant-loop-k : goal.invariant-loop-k
invariant-loop-k l = l.values ≡ over (slot_into (at l.cols) l.blocks (at l.inv_perm) l.rows.i l.rows.low l.rows.upper l.rows.lower) l.a l.k l.initial.values
