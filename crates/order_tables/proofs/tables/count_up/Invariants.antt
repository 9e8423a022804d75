use Prim.Native.Nat.{◌≤◌}
use mathlib.Core.List.{◌++◌}
use mathlib.Core.Path.{◌≡◌}
use lib.ListN.{length, drop}
use Rattle.order_definition.specs.Order.{numbers}
use Rattle.order_tables.proofs.tables.count_up.Given as goal

abbrev pub invariant-loop-i : goal.invariant-loop-i
invariant-loop-i l = (l.i ≤ l.i-end) × (l.i-end ≡ length l.initial.buf) × (length l.buf ≡ length l.initial.buf) × (l.buf ≡ numbers l.i ++ drop l.i l.initial.buf)
