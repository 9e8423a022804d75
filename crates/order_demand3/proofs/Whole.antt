-- Demand 3 holds of every well formed pattern. Assumes nothing.
use Prim.Native.Nat.{ℕ, ◌+◌}
use mathlib.Core.Path.{◌≡◌}
use mathlib.Core.List.{List}
use lib.ListN.{length, take}
use Rattle.matrix_shape.specs.Formed.{Stored}
use Rattle.matrix_shape.specs.Rows.{at, Pattern}
use Rattle.order_definition.specs.Order.{neighbours, start_after, fresh, order_of}
use Rattle.order_demand3.specs.Demand.{Ordered, Demand3, order_in, first_in, starts_in}
use Rattle.order_demand3.proofs.Final.{ordered, ordered_long}
use Rattle.order_demand3.proofs.Blocks.{given}
use Rattle.order_demand3.proofs.Envelope.{enveloped}

module _ (n : ℕ) (starts cols diagonal : List ℕ) (p : Pattern n starts cols diagonal) where
  abbrev nb : ℕ → List ℕ
  nb = neighbours (take (n + 1) starts) (take (at starts n) cols)

  order_holds : Ordered n (Stored (at starts) (at cols)) (at (order_in n starts cols))
  unfolding order_of
  order_holds = ordered (Stored (at starts) (at cols)) n (start_after nb n) (fresh nb n) (given n starts cols diagonal p)

  -- the order is as long as there are particles
  pub order_long : length (order_in n starts cols) ≡ n
  unfolding order_of
  order_long = ordered_long (Stored (at starts) (at cols)) n (start_after nb n) (fresh nb n) (given n starts cols diagonal p)

  pub demand_3 : Demand3 n (Stored (at starts) (at cols)) (at (order_in n starts cols)) (first_in n starts cols) (at (starts_in n starts cols))
  demand_3 = record { ordered = order_holds; enveloped = enveloped n starts cols diagonal p (order_in n starts cols) order_long order_holds }
