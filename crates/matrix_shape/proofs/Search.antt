-- What follows of specs/Search.antt: its theorems, apart from the definitions.
use Rattle.std.specs.Prelude.{ℕ, zero, suc, ◌+◌, ◌-◌, ◌/◌, ◌≤◌, ◌<◌, ◌≡◌, eqb}
use Rattle.std.proofs.Math.Path.{refl, sym}
use Rattle.std.proofs.Common.{◌∙◌, arith}
use Rattle.std.proofs.Math.Logic.{⊎_elim}
use borrow.Author.Tests.{lt-ltb, le-ltb, eq-eqb, ne_eqb}
use Rattle.law.specs.Truth.{below_or, same_or}
use Rattle.law.proofs.Loop.{climbing}
use Rattle.law.specs.Find.{find, find_first}
use Rattle.law.specs.Limit.{absent}
use Rattle.matrix_shape.specs.Index.{Strict}
use Rattle.matrix_shape.specs.Halving.{half, halved, left, half_in, halved_in, halved_from, halved_one, left_four}
use Rattle.matrix_shape.specs.Halving.{Within, within_all, within_halved, found, missing, none}
use Rattle.matrix_shape.specs.Search.{Searched, kept, search_of}

-- ---- how many steps are enough

enough_left : (n size : ℕ) → 0 < size → size ≤ n + 1 → left n size ≡ 1
unfolding left
enough_left zero size h l = omega arith
enough_left (suc n) size h l = enough_left n (size - size / 2) (omega arith) (omega arith)

-- once one is left, more steps change nothing
same_left : (c : ℕ → ℕ) (col m n low size : ℕ) → left m size ≡ 1 → left n size ≡ 1 → halved c col m low size ≡ halved c col n low size
unfolding halved left
same_left c col zero n low size e f = rw e (sym (halved_one c col n low))
same_left c col (suc m) zero low size e f = rw f (halved_one c col (suc m) low)
same_left c col (suc m) (suc n) low size e f = same_left c col m n (half c col low size) (size - size / 2) e f

kept_left : (size : ℕ) → 0 < size → left size size ≡ 1
kept_left size h = enough_left size size h (omega arith)

module _ (c : ℕ → ℕ) (a b col : ℕ) where
  pub searched_all : a < b → Searched c a b col a (b - a)
  searched_all h = record { some = omega arith; last = omega arith; same = refl }

  -- a step keeps it
  pub searched_half : (low size : ℕ) → Searched c a b col low size → Searched c a b col (halved c col 1 low size) (size - size / 2)
  unfolding halved left kept
  searched_half low size s =
      let some : 0 < size - size / 2 = omega (arith, s.some) in
      record {
        some = some;
        last = omega (arith, half_in c col low size, s.last);
        same = same_left c col (suc (size - size / 2)) size low size (kept_left (size - size / 2) some) (kept_left size s.some) ∙ s.same;
      }

  -- four steps leave the one of up to sixteen
  pub searched_four : (low size : ℕ) → size ≤ 16 → Searched c a b col low size → (halved c col 4 low size ≡ kept c col a (b - a))
      × (halved c col 4 low size < b)
  unfolding kept
  searched_four low size h s =
      let one = left_four size s.some h in
      (same_left c col 4 size low size one (kept_left size s.some) ∙ s.same, omega (arith, halved_in c col 4 low size, one, s.last))

  pub search_none : b ≤ a → absent ≡ search_of c a b col
  unfolding search_of
  search_none h = rw (le-ltb a b h)

  pub search_hit : (k : ℕ) → a < b → k ≡ kept c col a (b - a) → c k ≡ col → k ≡ search_of c a b col
  unfolding search_of
  search_hit k h e f = rw (lt-ltb a b h, ← e, eq-eqb _ _ f)

  pub search_miss : (k : ℕ) → a < b → k ≡ kept c col a (b - a) → (c k ≡ col → ⊥) → absent ≡ search_of c a b col
  unfolding search_of
  search_miss k h e f = rw (lt-ltb a b h, ← e, ne_eqb _ _ f)

  -- ---- what the answer means

  -- any answer but `absent` is one of the slots a..b, and has the column
  pub search_tells : (search_of c a b col ≡ absent → ⊥) → (a ≤ search_of c a b col) × (search_of c a b col < b) × (c (search_of c a b col) ≡ col)
  unfolding kept
  search_tells h =
      ⊎_elim (λ l.
      let k = kept c col a (b - a) in
      let inside : k < b = omega (arith, halved_in c col (b - a) a (b - a), kept_left (b - a) (omega arith)) in
      ⊎_elim (λ (t : c k ≡ col). rw (← search_hit k l refl t) (halved_from c col (b - a) a (b - a), inside, t))
      (λ t. absurd (h (sym (search_miss k l refl t)))) (same_or (c k) col))
      (λ l. absurd (h (sym (search_none l)))) (below_or a b)

  -- where the columns rise strictly, the answer is the slot that has the column, and `absent` says that none has
  pub search_finds : Strict c a b → search_of c a b col ≡ find (λ k. eqb (c k) col) a b absent
  unfolding kept
  search_finds strict =
      ⊎_elim (λ l.
      let k = kept c col a (b - a) in
      let w : Within c a b col k 1 = rw (kept_left (b - a) (omega arith)) at
      (within_halved c a b col strict (b - a) a (b - a) (within_all c a b col l)) in
      ⊎_elim (λ t. sym (search_hit k l refl t) ∙ found c a b col strict k w t) (λ t. sym (search_miss k l refl t) ∙ missing c a b col strict k w t)
      (same_or (c k) col))
      (λ l. sym (search_none l) ∙ none c a b col strict l) (below_or a b)

  -- and no slot's number is `absent`, so that this answer can't be a slot
  pub search_misses : Strict c a b → b ≤ absent → search_of c a b col ≡ absent → (k : ℕ) → a ≤ k → k < b → c k ≡ col → ⊥
  search_misses strict few e k g l f =
      let first = find_first (λ k. eqb (c k) col) absent a b k g l (eq-eqb _ _ f)
      (λ j u v. ne_eqb (c j) col (λ q. omega (arith, climbing c a b strict j k u v l))) in
      omega (arith, first, search_finds strict)
