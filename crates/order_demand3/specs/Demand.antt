-- DEMAND 3: the order lists each particle once, in unbroken stretches that are exactly the chained components, distances never
-- falling; every stored entry has its own place in the envelope, and no row starts too far left. Chains and distance speak of stored
-- blocks alone, and of no search. Stated over functions, so that order and envelope may stand in lists or anywhere else.
use Rattle.std.specs.Prelude.{ℕ, zero, suc, ◌+◌, ◌-◌, ◌*◌, ◌≤◌, ◌<◌, ◌≡◌, List, take}
use Rattle.matrix_shape.specs.Rows.{at}
use Rattle.order_definition.specs.Order.{order_of}
use Rattle.order_definition.specs.Envelope.{first_col, row_starts}

-- ---- chains. S a b says that block (a,b) is stored

-- a chain of k links leads from a to b: each link is a stored block
pub data Chain (S : ℕ → ℕ → Type 0) : ℕ → ℕ → ℕ → Type 0 where
  stay : {a : ℕ} → Chain S a a zero
  link : {a b c k : ℕ} → S a b → Chain S b c k → Chain S a c (suc k)

-- some chain leads from a to b
abbrev pub Chained : (ℕ → ℕ → Type 0) → ℕ → ℕ → Type 0
Chained S a b = (k : ℕ) × Chain S a b k

-- the distance from a to b is d: a chain of d links leads there, and none of fewer
abbrev pub Fewest : (ℕ → ℕ → Type 0) → ℕ → ℕ → ℕ → Type 0
Fewest S a b d = Chain S a b d × ((k : ℕ) → Chain S a b k → d ≤ k)

-- ---- the order. o i is the particle at place i

-- place k is the last of its stretch: no particle at a later place is joined with the one at k
abbrev pub Last : ℕ → (ℕ → ℕ → Type 0) → (ℕ → ℕ) → ℕ → Type 0
Last n S o k = (k < n) × ((m : ℕ) → k < m → m < n → Chained S (o k) (o m) → ⊥)

pub record Ordered (n : ℕ) (S : ℕ → ℕ → Type 0) (o : ℕ → ℕ) : Type 0 where
  -- n places have numbers below n, each particle among them, none twice
  pub below : (i : ℕ) → i < n → o i < n
  pub listed : (p : ℕ) → p < n → (i : ℕ) × (i < n) × (o i ≡ p)
  pub once : (i j : ℕ) → i < n → j < n → o i ≡ o j → i ≡ j
  -- whoever stands between two joined particles is joined with both: those joined with one
  -- particle fill a stretch without a break, and nobody else stands in it
  pub unbroken : (i j k : ℕ) → i ≤ j → j ≤ k → k < n → Chained S (o i) (o k) → Chained S (o i) (o j) × Chained S (o j) (o k)
  -- each place is in a stretch, which has a last place
  pub stretch : (i : ℕ) → i < n → (k : ℕ) × (i ≤ k) × Last n S o k × Chained S (o i) (o k)
  -- each particle of a stretch has a distance to its last one
  pub measured : (i k : ℕ) → i ≤ k → Last n S o k → Chained S (o i) (o k) → (d : ℕ) × Fewest S (o i) (o k) d
  -- and from the last place back this distance never falls
  pub back : (i j k : ℕ) → i ≤ j → j ≤ k → Last n S o k → Chained S (o i) (o k) → (d e : ℕ) → Fewest S (o i) (o k) d → Fewest S (o j) (o k) e → e ≤ d

-- ---- the envelope. Place i has the rows 2i and 2i+1; row r holds the columns from first r to r, and column c of it stands at starts r + (c − first r)

pub record Enveloped (n : ℕ) (S : ℕ → ℕ → Type 0) (o first starts : ℕ → ℕ) : Type 0 where
  -- each entry (2i+a, 2j+b) of a stored block that is on or below the diagonal lies inside
  pub inside : (i j a b : ℕ) → i < n → j < n → a < 2 → b < 2 → S (o i) (o j) → 2 * j + b ≤ 2 * i + a → first (2 * i + a) ≤ 2 * j + b
  -- what lies inside has a place before the envelope's end
  pub has : (r c : ℕ) → r < 2 * n → first r ≤ c → c ≤ r → starts r + (c - first r) < starts (2 * n)
  -- which is its own
  pub own : (r c q d : ℕ) → r < 2 * n → q < 2 * n → first r ≤ c → c ≤ r → first q ≤ d → d ≤ q → starts r + (c - first r) ≡ starts q + (d - first q)
      → (r ≡ q) × (c ≡ d)
  -- no row starts too far left: a place's two rows start at a block that it stores
  pub leftmost : (i a : ℕ) → i < n → a < 2 → (j : ℕ) × (j ≤ i) × S (o i) (o j) × (first (2 * i + a) ≡ 2 * j)

pub record Demand3 (n : ℕ) (S : ℕ → ℕ → Type 0) (o first starts : ℕ → ℕ) : Type 0 where
  pub ordered : Ordered n S o
  pub enveloped : Enveloped n S o first starts

-- ---- the order and the envelope of the pattern that lists hold: n + 1 row starts, and the columns up to the last of them

abbrev pub order_in : ℕ → List ℕ → List ℕ → List ℕ
order_in n starts cols = order_of n (take (n + 1) starts) (take (at starts n) cols)

abbrev pub first_in : ℕ → List ℕ → List ℕ → ℕ → ℕ
first_in n starts cols = first_col (take (n + 1) starts) (take (at starts n) cols) (order_in n starts cols)

abbrev pub starts_in : ℕ → List ℕ → List ℕ → List ℕ
starts_in n starts cols = row_starts (take (n + 1) starts) (take (at starts n) cols) (order_in n starts cols) (2 * n)
