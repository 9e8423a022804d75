-- WHAT THE ORDERING PICKS AND SORTS: where a search begins, what it meets, its far node, and what a
-- particle adds to the order. S a b says that block (a,b) is stored, nb v lists v's neighbours.
use Rattle.std.specs.Prelude.{ℕ, suc, ◌≤◌, ◌<◌, ◌≡◌, Bool, true, not, List}
use Rattle.matrix_shape.specs.Rows.{at}
use Rattle.order_definition.specs.Order.{among, passing, numbers, least, degree, Breadth, reach, depth, far_of, fresh}
use Rattle.order_demand3.specs.Demand.{Chained, Fewest}
use Rattle.order_demand3.specs.Keys.{Holds, InKeyOrder, Least}

abbrev pub Unplaced : ℕ → List ℕ → ℕ → Type 0
Unplaced n placed v = (v < n) × (Holds placed v → ⊥)

-- a link that leads to a free particle
abbrev pub Open : (ℕ → Bool) → (ℕ → ℕ → Type 0) → ℕ → ℕ → Type 0
Open free S a b = S a b × (free b ≡ true)

-- w is met in the last level
abbrev pub InLast : (ℕ → List ℕ) → ℕ → Breadth → ℕ → Type 0
InLast nb n r w = Holds r.queue w × (at r.level w ≡ depth nb n r)

-- the search from s over the free particles came to r
pub record Reached (n : ℕ) (S : ℕ → ℕ → Type 0) (nb : ℕ → List ℕ) (free : ℕ → Bool) (s : ℕ) (r : Breadth) : Type 0 where
  -- it met all that a chain of free particles leads to, each at one more than its distance
  pub meets : (w : ℕ) → Chained (Open free S) s w → Holds r.queue w
  pub measured : (w : ℕ) → Holds r.queue w → (k : ℕ) × (at r.level w ≡ suc k) × Fewest (Open free S) s w k
  -- the last level is the greatest
  pub last : (w : ℕ) → Holds r.queue w → at r.level w ≤ depth nb n r
  -- and the far node is the one in it of least key
  pub far : Least (degree nb) (InLast nb n r) (far_of nb n r)

pub record Picks (n : ℕ) (S : ℕ → ℕ → Type 0) (nb : ℕ → List ℕ) : Type 0 where
  -- wherever one is unplaced, the first search begins at the unplaced particle of least key
  pub begins : (placed : List ℕ) (w : ℕ) → Unplaced n placed w → Least (degree nb) (Unplaced n placed)
      (least n (degree nb) (passing (λ v. not (among placed v)) (numbers n)))
  pub searches : (free : ℕ → Bool) (s : ℕ) → s < n → free s ≡ true → Reached n S nb free s (reach nb n free s n)
  -- a particle adds its unplaced neighbours, by their keys
  pub adds : (placed : List ℕ) (v : ℕ) → v < n → InKeyOrder (degree nb) (λ w. S v w × (v ≡ w → ⊥) × (Holds placed w → ⊥)) (fresh nb n placed v)
