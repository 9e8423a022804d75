-- The rows of a tight pattern: a row holds what is stored in it, none twice; so its neighbours, and what a particle adds to the order.
use Prim.Native.Nat.{ℕ, suc, ◌+◌, ◌-◌, ◌≤◌, ◌<◌}
use native.Mathlib.Omega.{arith}
use native.Mathlib.Numerals.{add-one}
use mathlib.Core.Path.{◌≡◌, refl, sym, ap, ◌∙◌, subst}
use mathlib.Core.Logic.{◌⊎◌, inl, inr}
use mathlib.Core.Bool.{Bool, true, false, not}
use mathlib.Core.List.{List, []}
use lib.ListN.{length, get_or, take}
use lib.Seq.{length-slice, get_or-drop, get_or-take}
use lib.Dec.{eqb}
use borrow.Author.Tests.{eqb-true, not-true}
use Rattle.law.proofs.Loop.{rising, climbing}
use Rattle.law.specs.Truth.{below_or}
use Rattle.matrix_shape.specs.Formed.{Stored}
use Rattle.matrix_shape.specs.Rows.{at}
use Rattle.order_definition.specs.Order.{among, passing, degree, neighbours, row, fresh, start_after}
use Rattle.order_definition.specs.Tight.{Tight}
use Rattle.order_definition.proofs.At.{At, at_nil, at_lt, at_get_or, get_d_at, In}
use Rattle.order_definition.proofs.Pigeon.{Distinct, distinct_nil, among_false}
use Rattle.order_definition.proofs.Lists.{passing_in, in_passing, passing_distinct, in_sort, sort_in, sort_distinct}
use Rattle.order_definition.proofs.Free.{start_free}
use Rattle.order_definition.proofs.Placed.{Adding}

module _ (n : ℕ) (starts cols : List ℕ) (t : Tight n starts cols) where
  pub row_fits : (r : ℕ) → r < n → get_or starts (suc r) 0 ≤ length cols
  row_fits r lt = omega (arith, t.ends, rising (at starts) n (λ q l. rw (add-one q) (t.rise q l)) (suc r) n (omega arith) (omega arith))

  -- a place of a row is a slot
  row_at : (r i w : ℕ) → r < n → At (row starts cols r) i w → (get_or starts r 0 + i < get_or starts (suc r) 0) × (get_or cols (get_or starts r 0 + i) 0 ≡ w)
  row_at r i w lt a =
      let f = get_or starts r 0 in
      let e = get_or starts (suc r) 0 in
      let h = at_lt a in
      let len = length-slice f e cols (row_fits r lt) in
      let in_row : f + i < e = omega (arith, len) in
      (in_row, sym (get_or-take e cols (f + i) 0 in_row) ∙ sym (get_or-drop f (take e cols) i 0) ∙ at_get_or 0 a)

  pub row_stored : (r w : ℕ) → r < n → In w (row starts cols r) → Stored (at starts) (at cols) r w
  row_stored r w lt a = let p = row_at r a.0 w lt a.1 in (get_or starts r 0 + a.0, ((omega arith, rw (add-one r) p.0), p.1))

  pub stored_row : (r w : ℕ) → r < n → Stored (at starts) (at cols) r w → In w (row starts cols r)
  stored_row r w lt s =
      let f = get_or starts r 0 in
      let e = get_or starts (suc r) 0 in
      let i = s.0 - f in
      let back : f + i ≡ s.0 = omega (arith, s.1.0.0) in
      let end : s.0 < e = rw (add-one r) at s.1.0.1 in
      let len = length-slice f e cols (row_fits r lt) in
      let a = get_d_at (row starts cols r) i 0 (omega (arith, len)) in
      let is : get_or (row starts cols r) i 0 ≡ w =
      get_or-drop f (take e cols) i 0 ∙ get_or-take e cols (f + i) 0 (omega arith) ∙ ap (λ (m : ℕ). get_or cols m 0) back ∙ s.1.1 in
      (i, subst (λ (x : ℕ). At (row starts cols r) i x) is a)

  -- columns rise within a row, so a row has none twice
  pub row_distinct : (r : ℕ) → r < n → Distinct (row starts cols r)
  row_distinct r lt i j w a b = go (row_at r i w lt a) (row_at r j w lt b) (below_or i j) (below_or j i)
    where
      f : ℕ
      f = get_or starts r 0

      apart : (i j : ℕ) → i < j → f + j < get_or starts (suc r) 0 → get_or cols (f + i) 0 < get_or cols (f + j) 0
      apart i j h k =
          climbing (at cols) f (get_or starts (suc r) 0) (λ m g l. let e : suc (m - 1) ≡ m = omega arith in rw e at
          (t.strict r (m - 1) lt (omega arith) (rw e l)))
          (f + i) (f + j) (omega arith) (omega arith) k

      go : (f + i < get_or starts (suc r) 0) × (get_or cols (f + i) 0 ≡ w) → (f + j < get_or starts (suc r) 0) × (get_or cols (f + j) 0 ≡ w)
          → (i < j) ⊎ (j ≤ i) → (j < i) ⊎ (i ≤ j) → i ≡ j
      go p q (inl x) y = absurd (omega (arith, apart i j x q.0, p.1, q.1))
      go p q (inr x) (inl y) = absurd (omega (arith, apart j i y p.0, p.1, q.1))
      go p q (inr x) (inr y) = omega arith

  abbrev nb : ℕ → List ℕ
  nb = neighbours starts cols

  pub nb_stored : (v w : ℕ) → v < n → In w (nb v) → Stored (at starts) (at cols) v w
  unfolding neighbours
  nb_stored v w lt a = row_stored v w lt (passing_in (λ (c : ℕ). not (eqb c v)) (row starts cols v) w a).0

  pub stored_nb : (v w : ℕ) → v < n → Stored (at starts) (at cols) v w → (v ≡ w → ⊥) → In w (nb v)
  unfolding neighbours
  stored_nb v w lt s ne = in_passing (λ (c : ℕ). not (eqb c v)) (row starts cols v) w (stored_row v w lt s) (go (eqb w v) refl)
    where
      go : (b : Bool) → eqb w v ≡ b → not b ≡ true
      go true p = absurd (ne (sym (eqb-true w v p)))
      go false p = refl

  pub reaches : (a b : ℕ) → a < n → Stored (at starts) (at cols) a b → b < n
  reaches a b lt s =
      let end : s.0 < get_or starts (suc a) 0 = rw (add-one a) at s.1.0.1 in
      subst (λ (m : ℕ). m < n) s.1.1 (t.below s.0 (omega (arith, row_fits a lt)))

  -- a neighbour is a particle
  pub near : (v w : ℕ) → v < n → In w (nb v) → w < n
  near v w lt a = reaches v w lt (nb_stored v w lt a)

  pub fresh_in : (o : List ℕ) (v w : ℕ) → In w (fresh nb n o v) → In w (nb v) × (In w o → ⊥)
  unfolding fresh
  fresh_in o v w a = go (in_sort (degree nb) [] (passing (λ (x : ℕ). not (among o x)) (nb v)) w a)
    where
      go : In w [] ⊎ In w (passing (λ (x : ℕ). not (among o x)) (nb v)) → In w (nb v) × (In w o → ⊥)
      go (inl b) = absurd (at_nil b.1)
      go (inr b) = let p = passing_in (λ (x : ℕ). not (among o x)) (nb v) w b in (p.0, among_false o w (not-true (among o w) p.1))

  pub in_fresh : (o : List ℕ) (v w : ℕ) → In w (nb v) → among o w ≡ false → In w (fresh nb n o v)
  unfolding fresh
  in_fresh o v w a p = sort_in (degree nb) [] (passing (λ (x : ℕ). not (among o x)) (nb v)) w
      (inr (in_passing (λ (x : ℕ). not (among o x)) (nb v) w a (ap not p)))

  fresh_distinct : (o : List ℕ) (v : ℕ) → v < n → Distinct (fresh nb n o v)
  unfolding fresh neighbours
  fresh_distinct o v lt =
      sort_distinct (degree nb) [] (passing (λ (x : ℕ). not (among o x)) (nb v)) distinct_nil
      (passing_distinct (λ (x : ℕ). not (among o x)) (nb v) (passing_distinct (λ (c : ℕ). not (eqb c v)) (row starts cols v) (row_distinct v lt)))
      (λ (w : ℕ) (a : In w []) (b : In w (passing (λ (x : ℕ). not (among o x)) (nb v))). at_nil a.1)

  pub adding : Adding n (start_after nb n) (fresh nb n)
  adding = record {
    free = λ o l. start_free nb n o near l;
    below = λ o v w l a. near v w l (fresh_in o v w a).0;
    new = λ o v w a. (fresh_in o v w a).1;
    once = fresh_distinct;
  }
