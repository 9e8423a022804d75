-- A search in lent lists: what the code keeps of the definition's search.
use Rattle.std.specs.Prelude.{ℕ, zero, suc, ◌-◌, ◌<◌, true, not, ◌≡◌, List, [], ◌∷◌, ◌++◌, eqb, length, take, get_or}
use Rattle.std.specs.Coded.{Coded-set, coded_ℕ}
use Rattle.order_definition.specs.Order.{Breadth, passing, meet_all, neighbours, degree}
use Rattle.order_definition.specs.Marks.{unmarked}

-- the first len places of `queue` are r's queue, and `level` its levels
pub record Searched (r : Breadth) (queue level : List ℕ) (len : ℕ) : Type 0 where
  pub size : len ≡ length r.queue
  pub front : take len queue ≡ r.queue
  pub levels : level ≡ r.level

abbrev pub reach_of : List ℕ → List ℕ → ℕ → Breadth
reach_of queue level len = record { queue = take len queue; level = level }

-- the search once v has met those of its row
unfoldable pub meet_row : List ℕ → List ℕ → ℕ → ℕ → Breadth → Breadth
meet_row row mark l v r = meet_all (unmarked mark) l r (passing (λ c. not (eqb c v)) row)

-- marks, levels and a queue: a place for each of the n particles
pub record Lists (n : ℕ) (mark level queue : List ℕ) : Type 0 where
  pub marks : length mark ≡ n
  pub levels : length level ≡ n
  pub places : length queue ≡ n

-- the table of the degrees
pub record TableOf (starts cols : List ℕ) (n : ℕ) (degrees : List ℕ) : Type 0 where
  pub long : length degrees ≡ n
  pub each : (v : ℕ) → get_or degrees v 0 ≡ degree (neighbours starts cols) v

-- there is but one proof of it
pub TableOf-prop : (starts cols : List ℕ) (n : ℕ) (degrees : List ℕ) → IsProp (TableOf starts cols n degrees)
TableOf-prop starts cols n degrees t u i = record {
  long = Coded-set coded_ℕ _ _ t.long u.long i;
  each = λ v. Coded-set coded_ℕ _ _ (t.each v) (u.each v) i;
}

-- s is a particle that is not marked
pub record FreeAt (mark : List ℕ) (s : ℕ) : Type 0 where
  pub below : s < length mark
  pub free : unmarked mark s ≡ true

-- some particle is not marked
pub record SomeFree (mark : List ℕ) : Type 0 where
  pub one : ℕ
  pub is_free : FreeAt mark one

-- the degrees of the first particles, off the row starts: a row's length less its diagonal
abbrev pub degrees_to : List ℕ → ℕ → List ℕ
degrees_to starts zero = []
degrees_to starts (suc v) = degrees_to starts v ++ ((get_or starts (suc v) 0 - get_or starts v 0 - 1) ∷ [])
