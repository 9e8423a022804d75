use Prim.Native.Nat.{◌-◌, ◌≤◌}
use mathlib.Core.Path.{◌≡◌}
use Rattle.order_definition.specs.Order.{settle}
use Rattle.order_definition.specs.Marks.{unmarked}
use Rattle.order_definition.specs.Searches.{Lists, FreeAt}
use Rattle.order_search.specs.Graph.{beside}
use Rattle.order_start.proofs.start.settle_start.Given as goal

abbrev pub invariant-loop : goal.invariant-loop
invariant-loop l = (l.counter ≤ 4) × Lists l.ranked.graph.n l.mark l.level l.queue × FreeAt l.mark l.s × FreeAt l.mark l.last.far
    × (settle (beside l.ranked.graph) l.ranked.graph.n (unmarked l.mark) (4 - l.counter) l.s l.last.far l.last.deep
    ≡ settle (beside l.ranked.graph) l.ranked.graph.n (unmarked l.mark) 4 l.start l.fn.seen.far l.fn.seen.deep)
