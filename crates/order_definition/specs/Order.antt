-- THE REVERSE CUTHILL-MCKEE ORDER of a pattern (rules, module 3), as a definition that computes. A pattern is its row starts and its columns.
-- Recursion is over a count of places done with, so nothing is fuel; the same count is the loops' counter.
use Rattle.std.specs.Prelude.{ℕ, zero, suc, ◌-◌, Bool, true, false, not, cond, ◌&&◌, ◌||◌, List, [], ◌∷◌, ◌++◌, reverse, ltb, leb, eqb, length, get_or, set, replicate}
use Rattle.std.proofs.Math.Seq.{slice}

-- ---- lists

-- is w in the list?
abbrev pub among : List ℕ → ℕ → Bool
among [] w = false
among (x ∷ l) w = eqb x w || among l w

abbrev pub cons_if : Bool → ℕ → List ℕ → List ℕ
cons_if true x l = x ∷ l
cons_if false x l = l

-- those that pass the test, in their order
abbrev pub passing : (ℕ → Bool) → List ℕ → List ℕ
passing t [] = []
passing t (x ∷ l) = cons_if (t x) x (passing t l)

-- 0, 1, .. n-1
abbrev pub numbers : ℕ → List ℕ
numbers zero = []
numbers (suc n) = numbers n ++ (n ∷ [])

-- ---- keys: (degree, index)

abbrev pub before : (ℕ → ℕ) → ℕ → ℕ → Bool
before d a b = ltb (d a) (d b) || (eqb (d a) (d b) && ltb a b)

abbrev pub put : Bool → ℕ → ℕ → List ℕ → List ℕ → List ℕ
put true x y l r = x ∷ y ∷ l
put false x y l r = y ∷ r

abbrev pub insert : (ℕ → ℕ) → ℕ → List ℕ → List ℕ
insert d x [] = x ∷ []
insert d x (y ∷ l) = put (before d x y) x y l (insert d x l)

abbrev pub sort_onto : (ℕ → ℕ) → List ℕ → List ℕ → List ℕ
sort_onto d a [] = a
sort_onto d a (x ∷ l) = sort_onto d (insert d x a) l

-- the list by (degree, index)
abbrev pub sorted : (ℕ → ℕ) → List ℕ → List ℕ
sorted d l = sort_onto d [] l

abbrev pub lower : (ℕ → ℕ) → ℕ → ℕ → ℕ
lower d b x = cond (before d x b) x b

abbrev pub least_from : (ℕ → ℕ) → ℕ → List ℕ → ℕ
least_from d b [] = b
least_from d b (x ∷ l) = least_from d (lower d b x) l

-- the one of least (degree, index); z of none
abbrev pub least : ℕ → (ℕ → ℕ) → List ℕ → ℕ
least z d [] = z
least z d (x ∷ l) = least_from d x l

-- ---- a pattern's graph

abbrev pub row : List ℕ → List ℕ → ℕ → List ℕ
row starts cols r = slice (get_or starts r 0) (get_or starts (suc r) 0) cols

-- the other particles that row r has a stored block with, in the order stored
unfoldable pub neighbours : List ℕ → List ℕ → ℕ → List ℕ
neighbours starts cols r = passing (λ c. not (eqb c r)) (row starts cols r)

-- ---- the search, of any graph

-- a breadth-first search: its queue, and for each particle one more than its level, 0 where it is not met
pub record Breadth : Type 0 where
  pub queue : List ℕ
  pub level : List ℕ

abbrev pub met : Breadth → ℕ → ℕ → Breadth
met r w l = record { queue = r.queue ++ (w ∷ []); level = set r.level w l }

-- the search meets w: it joins the queue at the level l if it is free and not met yet
abbrev pub meet : (ℕ → Bool) → ℕ → Breadth → ℕ → Breadth
meet free l r w = cond (free w && eqb (get_or r.level w 0) 0) (met r w l) r

abbrev pub meet_all : (ℕ → Bool) → ℕ → Breadth → List ℕ → Breadth
meet_all free l r [] = r
meet_all free l r (w ∷ ws) = meet_all free l (meet free l r w) ws

module _ (nb : ℕ → List ℕ) where
  abbrev pub degree : ℕ → ℕ
  degree v = length (nb v)

  -- whoever stands at the queue's place h meets its neighbours
  abbrev pub spread : (ℕ → Bool) → Breadth → ℕ → Breadth
  spread free r h =
      elim (ltb h (length r.queue)) [
        | true ↦ let v = get_or r.queue h 0 in meet_all free (suc (get_or r.level v 0)) r (nb v)
        | false ↦ r
      ]

  module _ (n : ℕ) where
    -- the search from s over the free particles, once its first h places are done with
    unfoldable pub reach : (ℕ → Bool) → ℕ → ℕ → Breadth
    reach free s zero = met (record { queue = []; level = replicate n 0 }) s 1
    reach free s (suc h) = spread free (reach free s h) h

    -- the level of the last in the queue
    abbrev pub depth : Breadth → ℕ
    depth r = get_or r.level (get_or r.queue (length r.queue - 1) 0) 0

    -- of those at that level the one of least (degree, index)
    abbrev pub far_of : Breadth → ℕ
    far_of r = least n degree (passing (λ w. eqb (get_or r.level w 0) (depth r)) r.queue)

    -- at most so many more searches, each from the far node; a search no deeper than the last one ends it
    unfoldable pub settle : (ℕ → Bool) → ℕ → ℕ → ℕ → ℕ → ℕ
    settle free zero start far deep = start
    settle free (suc k) start far deep =
        let r = reach free far n in
        elim (leb (depth r) deep) [ true ↦ start | false ↦ settle free k far (far_of r) (depth r) ]

    -- where the next stretch starts, the free particles being those not placed
    unfoldable pub choose_start : (ℕ → Bool) → ℕ
    choose_start free =
        let s = least n degree (passing free (numbers n)) in
        let r = reach free s n in
        settle free 4 s (far_of r) (depth r)

    abbrev pub start_after : List ℕ → ℕ
    start_after placed = choose_start (λ v. not (among placed v))

    -- what a particle adds to the order: its unplaced neighbours by (degree, index)
    unfoldable pub fresh : List ℕ → ℕ → List ℕ
    fresh placed v = sorted degree (passing (λ w. not (among placed w)) (nb v))

-- ---- the placing, over any choice of the start and of what a particle adds

module _ (start : List ℕ → ℕ) (adds : List ℕ → ℕ → List ℕ) where
  -- the place h is filled: by the next start, where nobody stands there yet
  abbrev pub filled : List ℕ → ℕ → List ℕ
  filled o h = elim (ltb h (length o)) [ true ↦ o | false ↦ o ++ (start o ∷ []) ]

  -- whoever stands at place h adds its own
  abbrev pub visited : List ℕ → ℕ → List ℕ
  visited o h = o ++ adds o (get_or o h 0)

  -- the order, not yet reversed, once its first h places are done with
  unfoldable pub placing : ℕ → List ℕ
  placing zero = []
  placing (suc h) = visited (filled (placing h) h) h

unfoldable pub order_of : ℕ → List ℕ → List ℕ → List ℕ
order_of n starts cols = let nb = neighbours starts cols in reverse (placing (start_after nb n) (fresh nb n) n)
