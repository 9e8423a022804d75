use Prim.Native.Nat.{◌≤◌}
use mathlib.Core.List.{reverse, ◌++◌}
use mathlib.Core.Path.{◌≡◌}
use lib.ListN.{length, take, drop}
use Rattle.order_tables.proofs.tables.reverse_into.Given as goal

abbrev pub invariant-loop-i : goal.invariant-loop-i
invariant-loop-i l = (l.i ≤ l.i-end) × (l.i-end ≡ length l.initial.into) × (length l.into ≡ length l.initial.into) × (l.into ≡ take l.i (reverse l.from) ++ drop l.i l.initial.into)
