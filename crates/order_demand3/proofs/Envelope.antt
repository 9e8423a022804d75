-- The envelope of an order that lists each particle once.
use Prim.Native.Nat.{ℕ, zero, suc, ◌+◌, ◌-◌, ◌*◌, ◌≤◌, ◌<◌}
use native.Mathlib.Omega.{arith}
use native.Mathlib.Nat.{add-zero, add-suc}
use mathlib.Core.Path.{◌≡◌, refl, sym, ap, ◌∙◌, subst}
use mathlib.Core.Logic.{◌⊎◌, inl, inr}
use mathlib.Core.Bool.{Bool, true, false, cond}
use mathlib.Core.List.{List, [], ◌∷◌, ◌++◌}
use lib.ListN.{length, get_or, take, length-append, get_or-append}
use lib.Seq.{get_or_at}
use lib.Dec.{ltb, eqb}
use borrow.Author.Tests.{eqb-true, eqb-false, ltb-true, ltb-false}
use Rattle.law.specs.Truth.{below_or}
use Rattle.matrix_shape.specs.Formed.{Stored}
use Rattle.matrix_shape.specs.Rows.{at, Pattern}
use Rattle.order_definition.specs.Order.{neighbours}
use Rattle.order_definition.specs.Envelope.{place_of, lesser, leftmost, first_block, first_col, row_starts}
use Rattle.order_definition.proofs.At.{At, first, later, at_nil, at_lt, at_get_or, In, get_d_at}
use Rattle.order_definition.proofs.Pigeon.{in_cons, in_head, in_tail}
use Rattle.order_demand3.specs.Demand.{Ordered, Enveloped}
use Rattle.order_demand3.proofs.Blocks.{own_block, nb_stored, stored_nb, reaches}

-- ---- the place of a particle, the least of places

place_at : (o : List ℕ) (w : ℕ) → In w o → At o (place_of o w) w
place_at [] w a = absurd (at_nil a.1)
place_at (x ∷ o) w a = go (λ (b : In w o). place_at o w b) (eqb x w) refl (in_cons x o w a)
  where
    go : (In w o → At o (place_of o w) w) → (b : Bool) → eqb x w ≡ b → (x ≡ w) ⊎ In w o → At (x ∷ o) (cond b zero (suc (place_of o w))) w
    go ih true p m = first (eqb-true x w p)
    go ih false p (inl e) = absurd (eqb-false x w p e)
    go ih false p (inr m) = later (ih m)

lesser_is : (a b : ℕ) → (lesser a b ≤ a) × (lesser a b ≤ b) × ((lesser a b ≡ a) ⊎ (lesser a b ≡ b))
lesser_is a b = go (ltb b a) refl
  where
    go : (t : Bool) → ltb b a ≡ t → (cond t b a ≤ a) × (cond t b a ≤ b) × ((cond t b a ≡ a) ⊎ (cond t b a ≡ b))
    go true p = let q = ltb-true b a p in (omega arith, omega arith, inr refl)
    go false p = let q = ltb-false b a p in (omega arith, omega arith, inl refl)

module _ (o : List ℕ) where
  leftmost_le : (b : ℕ) (l : List ℕ) → leftmost o b l ≤ b
  leftmost_le b [] = omega arith
  leftmost_le b (c ∷ l) = let p = leftmost_le (lesser b (place_of o c)) l in omega (arith, p, (lesser_is b (place_of o c)).0)

  leftmost_in : (b : ℕ) (l : List ℕ) (c : ℕ) → In c l → leftmost o b l ≤ place_of o c
  leftmost_in b [] c a = absurd (at_nil a.1)
  leftmost_in b (x ∷ l) c a = go (λ (m : In c l). leftmost_in (lesser b (place_of o x)) l c m) (in_cons x l c a)
    where
      go : (In c l → leftmost o (lesser b (place_of o x)) l ≤ place_of o c) → (x ≡ c) ⊎ In c l → leftmost o (lesser b (place_of o x)) l ≤ place_of o c
      go ih (inl e) =
          let q : place_of o x ≡ place_of o c = ap (λ (y : ℕ). place_of o y) e in
          omega (arith, leftmost_le (lesser b (place_of o x)) l, (lesser_is b (place_of o x)).1)
      go ih (inr m) = ih m

  leftmost_is : (b : ℕ) (l : List ℕ) → (leftmost o b l ≡ b) ⊎ ((c : ℕ) × In c l × (leftmost o b l ≡ place_of o c))
  leftmost_is b [] = inl refl
  leftmost_is b (x ∷ l) = go (leftmost_is (lesser b (place_of o x)) l) (lesser_is b (place_of o x)).2
    where
      go : (leftmost o (lesser b (place_of o x)) l ≡ lesser b (place_of o x)) ⊎ ((c : ℕ) × In c l × (leftmost o (lesser b (place_of o x)) l ≡ place_of o c))
          → (lesser b (place_of o x) ≡ b) ⊎ (lesser b (place_of o x) ≡ place_of o x)
          → (leftmost o (lesser b (place_of o x)) l ≡ b) ⊎ ((c : ℕ) × In c (x ∷ l) × (leftmost o (lesser b (place_of o x)) l ≡ place_of o c))
      go (inl p) (inl q) = inl (p ∙ q)
      go (inl p) (inr q) = inr (x, in_head x l x refl, p ∙ q)
      go (inr p) q = inr (p.0, in_tail x l p.0 p.1, p.2)

-- ---- row starts

module _ (starts cols o : List ℕ) where
  abbrev fst : ℕ → ℕ
  fst = first_col starts cols o

  abbrev R : ℕ → List ℕ
  R = row_starts starts cols o

  length_R : (m : ℕ) → length (R m) ≡ suc m
  unfolding row_starts
  length_R zero = refl
  length_R (suc m) = length-append (R m) _ ∙ omega (arith, length_R m)

  grows : (m r : ℕ) → r < m → get_or (R m) (suc r) 0 ≡ get_or (R m) r 0 + (r - fst r + 1)
  unfolding row_starts
  grows zero r h = absurd (omega arith)
  grows (suc m) r h = go (λ (k : r < m). grows m r k) (below_or r m)
    where
      x : ℕ
      x = get_or (R m) m 0 + (m - fst m + 1)

      go : (r < m → get_or (R m) (suc r) 0 ≡ get_or (R m) r 0 + (r - fst r + 1)) → (r < m) ⊎ (m ≤ r) → get_or (R m ++ (x ∷ [])) (suc r) 0 ≡ get_or
          (R m ++ (x ∷ [])) r 0 + (r - fst r + 1)
      go ih (inr le) =
          let e : m ≡ r = omega arith in
          subst (λ (k : ℕ). get_or (R m ++ (x ∷ [])) (suc k) 0 ≡ get_or (R m ++ (x ∷ [])) k 0 + (k - fst k + 1)) e
          (get_or_at (R m) x [] 0 (suc m) (length_R m)
          ∙ ap (λ (y : ℕ). y + (m - fst m + 1)) (sym (get_or-append (R m) (x ∷ []) 0 m (omega (arith, length_R m)))))
      go ih (inl lt) =
          get_or-append (R m) (x ∷ []) 0 (suc r) (omega (arith, length_R m))
          ∙ ih lt
          ∙ ap (λ (y : ℕ). y + (r - fst r + 1)) (sym (get_or-append (R m) (x ∷ []) 0 r (omega (arith, length_R m))))

  rises : (m r k : ℕ) → r + k ≤ m → get_or (R m) r 0 ≤ get_or (R m) (r + k) 0
  rises m r zero h = subst (λ (i : ℕ). get_or (R m) r 0 ≤ get_or (R m) i 0) (sym (add-zero r)) (omega arith)
  rises m r (suc k) h =
      let p = rises m r k (omega arith) in
      let q = grows m (r + k) (omega arith) in
      subst (λ (i : ℕ). get_or (R m) r 0 ≤ get_or (R m) i 0) (sym (add-suc r k)) (omega arith)

  -- what lies inside a row comes before the next row, and so before every later one
  ahead : (m r c s : ℕ) → r < s → s ≤ m → fst r ≤ c → c ≤ r → get_or (R m) r 0 + (c - fst r) < get_or (R m) s 0
  ahead m r c s lt le f h =
      let g = grows m r (omega arith) in
      let e : suc r + (s - suc r) ≡ s = omega arith in
      let p : get_or (R m) (suc r) 0 ≤ get_or (R m) s 0 = subst (λ (i : ℕ). get_or (R m) (suc r) 0 ≤ get_or (R m) i 0) e
      (rises m (suc r) (s - suc r) (omega arith)) in
      omega arith

  own : (m r c r' c' : ℕ) → r < m → r' < m → fst r ≤ c → c ≤ r → fst r' ≤ c' → c' ≤ r'
      → get_or (R m) r 0 + (c - fst r) ≡ get_or (R m) r' 0 + (c' - fst r') → (r ≡ r') × (c ≡ c')
  own m r c r' c' h h' f l f' l' p = go (below_or r r') (below_or r' r)
    where
      same : r ≡ r' → (r ≡ r') × (c ≡ c')
      same e =
          let q : get_or (R m) r 0 ≡ get_or (R m) r' 0 = ap (λ (k : ℕ). get_or (R m) k 0) e in
          let s : fst r ≡ fst r' = ap (λ (k : ℕ). fst k) e in
          (e, omega arith)

      go : (r < r') ⊎ (r' ≤ r) → (r' < r) ⊎ (r ≤ r') → (r ≡ r') × (c ≡ c')
      go (inl x) y = absurd (omega (arith, ahead m r c r' x (omega arith) f l))
      go (inr x) (inl y) = absurd (omega (arith, ahead m r' c' r y (omega arith) f' l'))
      go (inr x) (inr y) = same (omega arith)

  -- a place's two rows start at one block
  first_of : (i a : ℕ) → a < 2 → fst (2 * i + a) ≡ 2 * first_block starts cols o i
  unfolding first_col
  first_of i a h = ap (λ (k : ℕ). 2 * first_block starts cols o k) (omega arith)

-- ---- the two together

module _ (n : ℕ) (starts cols diagonal : List ℕ) (p : Pattern n starts cols diagonal) (o : List ℕ) (long : length o ≡ n)
    (ord : Ordered n (Stored (at starts) (at cols)) (at o)) where
  abbrev S : ℕ → ℕ → Type 0
  S = Stored (at starts) (at cols)

  abbrev nb : ℕ → List ℕ
  nb = neighbours (take (n + 1) starts) (take (at starts n) cols)

  fb : ℕ → ℕ
  fb = first_block (take (n + 1) starts) (take (at starts n) cols) o

  place : (w : ℕ) → w < n → (place_of o w < n) × (get_or o (place_of o w) 0 ≡ w)
  place w lt =
      let l = ord.listed w lt in
      let h : l.0 < length o = omega (arith, l.1, long) in
      let a = place_at o w (l.0, subst (λ (x : ℕ). At o l.0 x) l.2 (get_d_at o l.0 0 h)) in
      (omega (arith, at_lt a, long), at_get_or 0 a)

  place_of_lem : (j : ℕ) → j < n → place_of o (get_or o j 0) ≡ j
  place_of_lem j lt = let q = place (get_or o j 0) (ord.below j lt) in ord.once _ j q.0 lt q.1

  starts_left : (i j : ℕ) → i < n → j < n → j ≤ i → S (get_or o i 0) (get_or o j 0) → fb i ≤ j
  unfolding fb first_block
  starts_left i j li lj le s = go (eqb (get_or o i 0) (get_or o j 0)) refl
    where
      go : (b : Bool) → eqb (get_or o i 0) (get_or o j 0) ≡ b → leftmost o i (nb (get_or o i 0)) ≤ j
      go true e =
          let same : i ≡ j = ord.once i j li lj (eqb-true (get_or o i 0) (get_or o j 0) e) in
          omega (arith, leftmost_le o i (nb (get_or o i 0)))
      go false e =
          let m = stored_nb n starts cols diagonal p (get_or o i 0) (get_or o j 0) (ord.below i li) s (eqb-false (get_or o i 0) (get_or o j 0) e) in
          omega (arith, leftmost_in o i (nb (get_or o i 0)) (get_or o j 0) m, place_of_lem j lj)

  starts_at : (i : ℕ) → i < n → (fb i ≤ i) × S (get_or o i 0) (get_or o (fb i) 0)
  unfolding fb first_block
  starts_at i li = (leftmost_le o i (nb (get_or o i 0)), go (leftmost_is o i (nb (get_or o i 0))))
    where
      go : (leftmost o i (nb (get_or o i 0)) ≡ i) ⊎ ((c : ℕ) × In c (nb (get_or o i 0)) × (leftmost o i (nb (get_or o i 0)) ≡ place_of o c))
          → S (get_or o i 0) (get_or o (leftmost o i (nb (get_or o i 0))) 0)
      go (inl e) = subst (λ (k : ℕ). S (get_or o i 0) (get_or o k 0)) (sym e) (own_block n starts cols diagonal p (get_or o i 0) (ord.below i li))
      go (inr x) =
          let s = nb_stored n starts cols diagonal p (get_or o i 0) x.0 (ord.below i li) x.1 in
          let q = place x.0 (reaches n starts cols diagonal p (get_or o i 0) x.0 (ord.below i li) s) in
          let e : x.0 ≡ get_or o (leftmost o i (nb (get_or o i 0))) 0 = sym q.1 ∙ ap (λ (k : ℕ). get_or o k 0) (sym x.2) in
          subst (λ (w : ℕ). S (get_or o i 0) w) e s

  pub enveloped : Enveloped n (Stored (at starts) (at cols)) (at o) (first_col (take (n + 1) starts) (take (at starts n) cols) o)
      (at (row_starts (take (n + 1) starts) (take (at starts n) cols) o (2 * n)))
  unfolding fb
  enveloped = record {
    inside = λ i j a b li lj la lb s h. omega (
      arith,
      first_of (take (n + 1) starts) (take (at starts n) cols) o i a la,
      starts_left i j li lj
          (omega arith) s,
    );
    has = λ r c lt f h. ahead (take (n + 1) starts) (take (at starts n) cols) o (2 * n) r c (2 * n) lt (omega arith) f h;
    own = λ r c q d h g f l e m x. own (take (n + 1) starts) (take (at starts n) cols) o (2 * n) r c q d h g f l e m x;
    leftmost = λ i a li la. let s = starts_at i li in (fb i, s.0, s.1, first_of (take (n + 1) starts) (take (at starts n) cols) o i a la);
  }
