use mathlib.Core.Path.{◌≡◌}
use Prim.Native.Nat.{◌+◌}
use lib.ListN.{get_or}
use lib.Ieee.{nan}
use Rattle.law.specs.Loop.{over}
use Rattle.factor_row.specs.Row.{square_step}
use Rattle.factor_row.proofs.row.pivot.Given as goal

abbrev pub invariant-loop-e : goal.invariant-loop-e
invariant-loop-e l = l.d ≡ over (square_step l.values) l.a (l.a + l.e-index) (get_or l.values l.b nan)
