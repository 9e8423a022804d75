-- A GRAPH AS IT IS LENT: who is beside whom, and what a search from one of them reaches.
use Rattle.std.specs.Prelude.{ℕ, List}
use Rattle.order_definition.specs.Order.{Breadth, neighbours, reach}
use Rattle.order_definition.specs.Marks.{unmarked}
use Rattle.order_search.specs.declared.graph.Graph.{Graph}

abbrev pub beside : Graph → ℕ → List ℕ
beside g = neighbours g.row_offsets.now g.cols.now

-- the search from s over those that are not marked
abbrev pub reached : Graph → List ℕ → ℕ → Breadth
reached g mark s = reach (beside g) g.n (unmarked mark) s g.n
