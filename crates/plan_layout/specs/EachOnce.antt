-- A LIST OF THE NUMBERS BELOW n, EACH ONCE, and the place of each: the list and the table of places undo each other.
use Rattle.std.specs.Prelude.{ℕ, zero, suc, ◌+◌, ◌≤◌, ◌<◌, ◌≡◌, refl, Bool, true, false, List, [], ◌∷◌, eqb, length, set}
use Rattle.std.proofs.Common.{sym, ap, ◌∙◌, arith, get_or-set_same, get_or-set_other, below_more, eqb-true}
use Rattle.std.proofs.lemmas.Bool.{eqb-false}
use Rattle.std.specs.Coded.{×_prop, le_prop, Coded-set, coded_ℕ}
use mathlib.Core.HLevel.{Σ_prop_path}
use Rattle.law.specs.Gather.{table}
use Rattle.law.proofs.Gather.{table_of}
use Rattle.matrix_shape.specs.Rows.{at, Pattern}
use Rattle.order_definition.specs.Envelope.{place_of}
use Rattle.order_demand3.specs.Demand.{order_in}
use Rattle.order_demand3.proofs.Whole.{order_long, demand_3}

pub record EachOnce (n : ℕ) (o : List ℕ) : Type 0 where
  pub long : length o ≡ n
  pub below : (i : ℕ) → i < n → at o i < n
  pub once : (i j : ℕ) → i < n → j < n → at o i ≡ at o j → i ≡ j
  pub listed : (q : ℕ) → q < n → (i : ℕ) × ((i < n) × (at o i ≡ q))

-- there is but one proof of it, since a number stands at one place
pub EachOnce-prop : (n : ℕ) (o : List ℕ) → IsProp (EachOnce n o)
EachOnce-prop n o t u i = record {
  long = Coded-set coded_ℕ _ _ t.long u.long i;
  below = λ k h. le_prop (t.below k h) (u.below k h) i;
  once = λ j k h g e. Coded-set coded_ℕ _ _ (t.once j k h g e) (u.once j k h g e) i;
  listed = λ q h. one q h (t.listed q h) (u.listed q h) i;
}
  where
    one : (q : ℕ) → q < n → (a b : (i : ℕ) × ((i < n) × (at o i ≡ q))) → a ≡ b
    one q h a b = Σ_prop_path (λ k. ×_prop le_prop (Coded-set coded_ℕ _ _)) (t.once a.0 b.0 a.1.0 b.1.0 (a.1.1 ∙ sym b.1.1))

-- the place of a number is the first at which it stands
abbrev First : List ℕ → ℕ → ℕ → Type 0
First o w i = (place_of o w ≤ i) × (at o (place_of o w) ≡ w)

place_first : (o : List ℕ) (i w : ℕ) → i < length o → at o i ≡ w → First o w i
place_first [] i w h e = absurd (omega arith)
place_first (x ∷ o) i w h e = go i h e (λ j. place_first o j w) (eqb x w) refl
  where
    go : (i : ℕ) → i < length (x ∷ o) → at (x ∷ o) i ≡ w → ((j : ℕ) → j < length o → at o j ≡ w → First o w j) → (t : Bool) → eqb x w ≡ t → First (x ∷ o) w i
    go i h e later true t = rw t (omega arith, eqb-true x w t)
    go zero h e later false t = absurd (eqb-false x w t e)
    go (suc i) h e later false t = let q = later i (omega arith) e in rw t (omega (arith, q.0), q.1)

module _ (n : ℕ) (o : List ℕ) (w : EachOnce n o) where
  found : (q : ℕ) → q < n → (place_of o q < n) × (at o (place_of o q) ≡ q)
  found q h =
      let i = w.listed q h in
      let p = place_first o i.0 q (omega (arith, i.1.0, w.long)) i.1.1 in
      (omega (arith, i.1.0, p.0), p.1)

  pub place_below : (q : ℕ) → q < n → place_of o q < n
  place_below q h = (found q h).0

  pub at_place : (q : ℕ) → q < n → at o (place_of o q) ≡ q
  at_place q h = (found q h).1

  pub place_at : (i : ℕ) → i < n → place_of o (at o i) ≡ i
  place_at i h = let f = found (at o i) (w.below i h) in w.once (place_of o (at o i)) i f.0 h f.1

  -- ---- the table of places, written place by place

  pub place_put : (i : ℕ) → i < n → (l : List ℕ) → length l ≡ n → ((j : ℕ) → j < i → at l (at o j) ≡ j) → (j : ℕ) → j < i + 1
      → at (set l (at o i) i) (at o j) ≡ j
  place_put i h l e each =
      below_more (λ j. at (set l (at o i) i) (at o j) ≡ j) i
      (λ j g. get_or-set_other l (at o i) (at o j) i 0 (λ q. omega (arith, w.once j i (omega arith) h q)) ∙ each j g)
      (get_or-set_same l (at o i) i 0 (omega (arith, w.below i h)))

  pub places_are : (l : List ℕ) → length l ≡ n → ((j : ℕ) → j < n → at l (at o j) ≡ j) → l ≡ table (place_of o) n
  places_are l e each = table_of (place_of o) n l e (λ q h. ap (at l) (sym (at_place q h)) ∙ each (place_of o q) (place_below q h))

-- ---- the order of a pattern is such a list

pub order_lists : (n : ℕ) (starts cols diagonal : List ℕ) → Pattern n starts cols diagonal → EachOnce n (order_in n starts cols)
order_lists n starts cols diagonal p =
    let o = (demand_3 n starts cols diagonal p).ordered in
    record { long = order_long n starts cols diagonal p; below = o.below; once = o.once; listed = λ q h. let i = o.listed q h in (i.0, (i.1, i.2)) }
