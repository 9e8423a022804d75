use Prim.Native.Nat.{◌≤◌}
use mathlib.Core.List.{◌++◌}
use mathlib.Core.Path.{◌≡◌}
use lib.ListN.{length, drop}
use Rattle.order_definition.specs.Searches.{degrees_to}
use Rattle.order_tables.proofs.tables.fill_degrees.Given as goal

abbrev pub invariant-loop-v : goal.invariant-loop-v
invariant-loop-v l = (l.v ≤ l.v-end) × (l.v-end ≡ length l.initial.degrees) × (length l.degrees ≡ length l.initial.degrees) × (l.degrees ≡ degrees_to l.row_offsets l.v ++ drop l.v l.initial.degrees)
