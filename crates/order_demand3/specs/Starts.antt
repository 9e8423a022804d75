-- WHERE A STRETCH STARTS (rules, module 3), by chains and distances alone: no search, queue or level is named.
-- S a b says that block (a,b) is stored, d v is v's degree, U v that v is not placed yet.
use Rattle.std.specs.Prelude.{ℕ, zero, suc, ◌≤◌, ◌<◌, ◌≡◌, List}
use Rattle.order_definition.specs.Order.{degree, start_after}
use Rattle.order_demand3.specs.Demand.{Fewest, Last}
use Rattle.order_demand3.specs.Keys.{Holds, Least}
use Rattle.order_demand3.specs.Picks.{Unplaced}

-- 'At most four more searches from the far node'
abbrev pub more_searches : ℕ
more_searches = 4

module _ (n : ℕ) (S : ℕ → ℕ → Type 0) (d : ℕ → ℕ) (U : ℕ → Type 0) where
  -- the distance from s to w is k, by links that lead to unplaced particles
  abbrev pub Away : ℕ → ℕ → ℕ → Type 0
  Away s w k = Fewest (λ a b. S a b × U b) s w k

  -- the depth of s is k: somebody is so far away, and nobody farther
  abbrev pub Depth : ℕ → ℕ → Type 0
  Depth s k = ((w : ℕ) × Away s w k) × ((w j : ℕ) → Away s w j → j ≤ k)

  -- f is the far node of s, which has the depth k: of those so far away the one of least key
  pub record Far (s k f : ℕ) : Type 0 where
    pub deep : Depth s k
    pub far : Least d (λ w. Away s w k) f

  -- the start has moved m times, to s: it begins at the unplaced particle of least key, and moves on to the far node while that is deeper
  pub data Trail : ℕ → ℕ → Type 0 where
    begin : {s : ℕ} → Least d (λ v. (v < n) × U v) s → Trail zero s
    move : {m s k f j : ℕ} → Trail m s → Far s k f → Depth f j → k < j → Trail (suc m) f

  -- s is chosen: the start has moved at most four times, and if fewer, then because the far node is no deeper than s
  pub record Chosen (s : ℕ) : Type 0 where
    pub moves : ℕ
    pub trail : Trail moves s
    pub most : moves ≤ more_searches
    pub stopped : moves < more_searches → (k f j : ℕ) × Far s k f × Depth f j × (j ≤ k)

-- no place behind k has v: o is reversed, so it was not placed when k was filled
abbrev pub NotBehind : ℕ → (ℕ → ℕ) → ℕ → ℕ → Type 0
NotBehind n o k v = (m : ℕ) → k < m → m < n → o m ≡ v → ⊥

pub record Starts (n : ℕ) (S : ℕ → ℕ → Type 0) (nb : ℕ → List ℕ) (o : ℕ → ℕ) : Type 1 where
  -- wherever one is unplaced, the defined start is chosen
  pub chosen : (placed : List ℕ) (w : ℕ) → Unplaced n placed w → Chosen n S (degree nb) (λ v. Holds placed v → ⊥) (start_after nb n placed)
  -- and there is no other
  pub one : (U : ℕ → Type 0) (s t : ℕ) → Chosen n S (degree nb) U s → Chosen n S (degree nb) U t → s ≡ t
  -- so each stretch of the order begins: at its last place
  pub begins : (k : ℕ) → Last n S o k → Chosen n S (degree nb) (NotBehind n o k) (o k)
