-- Marks in a lent list: what the code keeps beside the definition's own lists.
use Rattle.std.specs.Prelude.{ℕ, ◌+◌, Bool, not, List, [], ◌∷◌, ◌++◌, ◌≡◌, eqb, length, get_or, set, take, drop, replicate}
use Rattle.order_definition.specs.Order.{passing, sorted}
use Rattle.order_definition.specs.Keys.{key_of}

-- w is not marked
abbrev pub unmarked : List ℕ → ℕ → Bool
unmarked mark w = eqb (get_or mark w 0) 0

-- each of the list is marked
abbrev pub mark_all : List ℕ → List ℕ → List ℕ
mark_all m [] = m
mark_all m (x ∷ l) = mark_all (set m x 1) l

-- those of v's row that are not v itself and not marked, as they are stored
unfoldable pub open_of : List ℕ → List ℕ → ℕ → List ℕ
open_of row mark v = passing (unmarked mark) (passing (λ c. not (eqb c v)) row)

-- what a visit of v, whose row is lent, leaves: `order` and `mark` before, the answer r, and the two after
pub record Visited (row degrees order mark : List ℕ) (v len r : ℕ) (order' mark' : List ℕ) : Type 0 where
  pub upto : r ≡ len + length (open_of row mark v)
  pub listed : order' ≡ (take len order ++ sorted (key_of degrees) (open_of row mark v)) ++ drop r order
  pub marked : mark' ≡ mark_all mark (sorted (key_of degrees) (open_of row mark v))

-- o stands in the first len places of `order`, and it is what is marked
pub record Stands (n : ℕ) (o order mark : List ℕ) (len : ℕ) : Type 0 where
  pub long : length order ≡ n
  pub upto : len ≡ length o
  pub front : take len order ≡ o
  pub marks : mark ≡ mark_all (replicate n 0) o
