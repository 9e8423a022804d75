-- THE PLACING OVER A GRAPH AS IT IS LENT.
use Rattle.std.specs.Prelude.{ℕ, List}
use Rattle.order_definition.specs.Order.{start_after, fresh, filled, placing}
use Rattle.order_search.specs.declared.graph.Graph.{Graph}
use Rattle.order_search.specs.Graph.{beside}

-- the order, not yet reversed, once its first h places are done with
abbrev pub placed_to : Graph → ℕ → List ℕ
placed_to g h = placing (start_after (beside g) g.n) (fresh (beside g) g.n) h

-- and once the place h is filled
abbrev pub filled_to : Graph → ℕ → List ℕ
filled_to g h = filled (start_after (beside g) g.n) (fresh (beside g) g.n) (placed_to g h) h
