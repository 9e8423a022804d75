use Prim.Native.Nat.{◌-◌, ◌≤◌}
use Rattle.order_definition.specs.Order.{reach}
use Rattle.order_definition.specs.Marks.{unmarked}
use Rattle.order_definition.specs.Searches.{Searched, Lists}
use Rattle.order_search.specs.Graph.{beside}
use Rattle.order_search.proofs.breadth.explore.Given as goal

abbrev pub invariant-loop-head : goal.invariant-loop-head
invariant-loop-head l = (l.head ≤ l.graph.n) × Lists l.graph.n l.mark l.level l.queue
    × Searched (reach (beside l.graph) l.graph.n (unmarked l.mark) l.s l.head) l.queue l.level l.len

abbrev pub decreases-loop-head : goal.decreases-loop-head
decreases-loop-head l = l.graph.n - l.head
