-- The laws of the loop in which one meets those of its row.
use Prim.Native.Nat.{ℕ, suc, ◌+◌, ◌≤◌, ◌<◌}
use native.Mathlib.Omega.{arith}
use native.Mathlib.Numerals.{add-one}
use mathlib.Core.Path.{◌≡◌, refl, sym, ap, ◌∙◌, subst}
use mathlib.Core.Bool.{Bool, true, false, not, ◌&&◌, cond}
use mathlib.Core.List.{List, [], ◌∷◌, ◌++◌}
use lib.ListN.{length, get_or, take, set, length-append}
use lib.Seq.{take-suc, take-suc-set, take_all}
use lib.Dec.{eqb}
use mathlib.Core.Logic.{◌⊎◌, inl, inr}
use Rattle.law.proofs.Loop.{from}
use Rattle.law.specs.Truth.{below_or}
use Rattle.order_definition.specs.Order.{passing, cons_if, Breadth, met, meet, meet_all}
use Rattle.order_definition.specs.Marks.{unmarked}
use Rattle.order_definition.specs.Searches.{Searched, meet_row}
use Rattle.order_definition.proofs.Filling.{passing_append}

meet_all_append : (free : ℕ → Bool) (l : ℕ) (r : Breadth) (x y : List ℕ) → meet_all free l r (x ++ y) ≡ meet_all free l (meet_all free l r x) y
meet_all_append free l r [] y = refl
meet_all_append free l r (w ∷ x) y = meet_all_append free l (meet free l r w) x y

-- the search meets w in v's row
abbrev pub is_new : List ℕ → List ℕ → ℕ → ℕ → Bool
is_new mark level v w = (not (eqb w v) && unmarked mark w) && eqb (get_or level w 0) 0

module _ (row mark : List ℕ) (v l : ℕ) (r₀ : Breadth) where
  -- the search once v has met the first k of its row
  abbrev pub met_to : ℕ → Breadth
  met_to k = meet_row (take k row) mark l v r₀

  pub met_to_none : met_to 0 ≡ r₀
  unfolding meet_row
  met_to_none = refl

  pub met_to_all : (k : ℕ) → length row ≤ k → met_to k ≡ meet_row row mark l v r₀
  met_to_all k h = ap (λ (t : List ℕ). meet_row t mark l v r₀) (take_all k row h)

  met_to_more : (k : ℕ) → k < length row
      → met_to (suc k) ≡ cond (is_new mark (met_to k).level v (get_or row k 0)) (met (met_to k) (get_or row k 0) l) (met_to k)
  unfolding meet_row
  met_to_more k lt =
      ap (λ (t : List ℕ). meet_all (unmarked mark) l r₀ (passing (λ c. not (eqb c v)) t)) (take-suc row k 0 lt)
      ∙ ap (λ (t : List ℕ). meet_all (unmarked mark) l r₀ t) (passing_append (λ c. not (eqb c v)) (take k row) (get_or row k 0 ∷ []))
      ∙ meet_all_append (unmarked mark) l r₀ (passing (λ c. not (eqb c v)) (take k row)) (cons_if (not (eqb (get_or row k 0) v)) (get_or row k 0) [])
      ∙ go (not (eqb (get_or row k 0) v))
    where
      go : (b : Bool) → meet_all (unmarked mark) l (met_to k) (cons_if b (get_or row k 0) [])
          ≡ cond ((b && unmarked mark (get_or row k 0)) && eqb (get_or (met_to k).level (get_or row k 0) 0) 0) (met (met_to k) (get_or row k 0) l) (met_to k)
      go true = refl
      go false = refl

  grows : (k : ℕ) → length (met_to k).queue ≤ length (met_to (suc k)).queue
  grows k = go (below_or k (length row))
    where
      cases : (b : Bool) → length (met_to k).queue ≤ length (cond b (met (met_to k) (get_or row k 0) l) (met_to k)).queue
      cases true = omega (arith, length-append (met_to k).queue (get_or row k 0 ∷ []))
      cases false = omega arith

      go : (k < length row) ⊎ (length row ≤ k) → length (met_to k).queue ≤ length (met_to (suc k)).queue
      go (inl lt) = subst (λ (r : Breadth). length (met_to k).queue ≤ length r.queue) (sym (met_to_more k lt))
          (cases (is_new mark (met_to k).level v (get_or row k 0)))
      go (inr le) = rw (met_to_all k le, met_to_all (suc k) (omega arith)) (omega arith)

  met_to_le : (k j : ℕ) → length (met_to k).queue ≤ length (met_to (k + j)).queue
  met_to_le k j = from (λ (i : ℕ). length (met_to k).queue ≤ length (met_to i).queue) k (omega arith) (λ i h p. let q = grows i in rw add-one (omega arith))
      (k + j) (omega arith)

  module _ (k len : ℕ) (queue level : List ℕ) (lt : k < length row) (s : Searched (met_to k) queue level len) where
    turn : (b : Bool) → is_new mark level v (get_or row k 0) ≡ b → met_to (suc k) ≡ cond b (met (met_to k) (get_or row k 0) l) (met_to k)
    turn b w = met_to_more k lt ∙ ap (λ (t : Bool). cond t (met (met_to k) (get_or row k 0) l) (met_to k))
        (ap (λ (t : List ℕ). is_new mark t v (get_or row k 0)) (sym s.levels) ∙ w)

    -- a turn that meets one
    pub meet_yes : is_new mark level v (get_or row k 0) ≡ true → len < length queue
        → Searched (met_to (k + 1)) (set queue len (get_or row k 0)) (set level (get_or row k 0) l) (len + 1)
    meet_yes w room =
        let x = get_or row k 0 in
        rw (add-one k, turn true w) (record {
          size = let p = s.size in omega (arith, length-append (met_to k).queue (x ∷ []));
          front = ap (λ (i : ℕ). take i (set queue len x)) (add-one len) ∙ take-suc-set queue len x room
              ∙ ap {B = List ℕ} (λ t. t ++ (x ∷ [])) s.front;
          levels = ap (λ (t : List ℕ). set t x l) s.levels;
        })

    pub meet_no : is_new mark level v (get_or row k 0) ≡ false → Searched (met_to (k + 1)) queue level len
    meet_no w = rw (add-one k, turn false w) s

    -- and the queue has room for it
    pub meet_room : (m : ℕ) → is_new mark level v (get_or row k 0) ≡ true → length (meet_row row mark l v r₀).queue ≤ m → len < m
    meet_room m w room =
        let q = ap (λ (r : Breadth). length r.queue) (turn true w) ∙ length-append (met_to k).queue (get_or row k 0 ∷ []) in
        let p = met_to_le (suc k) (length row) in
        let e = ap (λ (r : Breadth). length r.queue) (met_to_all (suc k + length row) (omega arith)) in
        omega (arith, s.size)
