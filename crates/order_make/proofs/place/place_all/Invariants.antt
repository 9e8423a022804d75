use Prim.Native.Nat.{◌≤◌}
use mathlib.Core.Path.{◌≡◌}
use Rattle.order_definition.specs.Marks.{Stands}
use Rattle.order_definition.specs.Searches.{Lists}
use Rattle.order_make.specs.Placing.{placed_to}
use Rattle.order_make.proofs.place.place_all.Given as goal

abbrev pub invariant-loop-h : goal.invariant-loop-h
invariant-loop-h l = (l.h ≤ l.h-end) × (l.h-end ≡ l.ranked.graph.n) × Lists l.ranked.graph.n l.mark l.level l.queue
    × Stands l.ranked.graph.n (placed_to l.ranked.graph l.h) l.order l.mark l.len
