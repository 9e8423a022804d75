-- Distinct numbers below n: at most n of them, and if n of them then all.
use Prim.Native.Nat.{ℕ, zero, suc, ◌+◌, ◌≤◌, ◌<◌, zero-le}
use native.Mathlib.Omega.{arith}
use native.Mathlib.Nat.{suc_inj, suc-ne-zero}
use mathlib.Core.Path.{◌≡◌, refl, sym, ap, ◌∙◌, subst}
use mathlib.Core.Logic.{◌⊎◌, inl, inr}
use mathlib.Core.Bool.{Bool, true, false, ◌||◌}
use mathlib.Core.List.{List, [], ◌∷◌, ◌++◌}
use lib.ListN.{length, length-append}
use lib.Dec.{eqb}
use borrow.Author.Tests.{eqb-true, eqb-false}
use Rattle.law.specs.Truth.{below_or}
use Rattle.order_definition.specs.Order.{among, numbers}
use Rattle.order_definition.proofs.At.{At, first, later, at_nil, at_cons, at_left, at_right, at_cases, In, one_at}

-- no two places of the list hold the same
abbrev pub Distinct : List ℕ → Type 0
Distinct l = (i j w : ℕ) → At l i w → At l j w → i ≡ j

pub distinct_nil : Distinct []
distinct_nil i j w a b = absurd (at_nil a)

pub distinct_tail : (x : ℕ) (l : List ℕ) → Distinct (x ∷ l) → Distinct l
distinct_tail x l d i j w a b = suc_inj (d (suc i) (suc j) w (later a) (later b))

pub distinct_head : (x : ℕ) (l : List ℕ) → Distinct (x ∷ l) → In x l → ⊥
distinct_head x l d a = suc-ne-zero a.0 (d (suc a.0) zero x (later a.1) (first refl))

pub distinct_cons : (x : ℕ) (l : List ℕ) → (In x l → ⊥) → Distinct l → Distinct (x ∷ l)
distinct_cons x l f d i j w a b = go (at_cons a) (at_cons b)
  where
    go : ((i ≡ zero) × (x ≡ w)) ⊎ ((k : ℕ) × (i ≡ suc k) × At l k w) → ((j ≡ zero) × (x ≡ w)) ⊎ ((k : ℕ) × (j ≡ suc k) × At l k w) → i ≡ j
    go (inl p) (inl q) = p.0 ∙ sym q.0
    go (inl p) (inr q) = absurd (f (q.0, subst (λ (v : ℕ). At l q.0 v) (sym p.1) q.2))
    go (inr p) (inl q) = absurd (f (p.0, subst (λ (v : ℕ). At l p.0 v) (sym q.1) p.2))
    go (inr p) (inr q) = p.1 ∙ ap suc (d p.0 q.0 w p.2 q.2) ∙ sym q.1

pub in_cons : (x : ℕ) (l : List ℕ) (w : ℕ) → In w (x ∷ l) → (x ≡ w) ⊎ In w l
in_cons x l w a = go (at_cons a.1)
  where
    go : ((a.0 ≡ zero) × (x ≡ w)) ⊎ ((k : ℕ) × (a.0 ≡ suc k) × At l k w) → (x ≡ w) ⊎ In w l
    go (inl p) = inl p.1
    go (inr p) = inr (p.0, p.2)

pub in_head : (x : ℕ) (l : List ℕ) (w : ℕ) → x ≡ w → In w (x ∷ l)
in_head x l w p = (0, first p)

pub in_tail : (x : ℕ) (l : List ℕ) (w : ℕ) → In w l → In w (x ∷ l)
in_tail x l w a = (suc a.0, later a.1)

pub in_append : (l m : List ℕ) (w : ℕ) → In w (l ++ m) → In w l ⊎ In w m
in_append l m w a = go (at_cases l a.1)
  where
    go : At l a.0 w ⊎ ((j : ℕ) × (a.0 ≡ length l + j) × At m j w) → In w l ⊎ In w m
    go (inl x) = inl (a.0, x)
    go (inr x) = inr (x.0, x.2)

pub distinct_one : (x : ℕ) → Distinct (x ∷ [])
distinct_one x i j w a b = (one_at a).0 ∙ sym (one_at b).0

pub distinct_append : (l m : List ℕ) → Distinct l → Distinct m → ((w : ℕ) → In w l → In w m → ⊥) → Distinct (l ++ m)
distinct_append l m d e f i j w a b = go (at_cases l a) (at_cases l b)
  where
    go : At l i w ⊎ ((k : ℕ) × (i ≡ length l + k) × At m k w) → At l j w ⊎ ((k : ℕ) × (j ≡ length l + k) × At m k w) → i ≡ j
    go (inl p) (inl q) = d i j w p q
    go (inl p) (inr q) = absurd (f w (i, p) (q.0, q.2))
    go (inr p) (inl q) = absurd (f w (j, q) (p.0, p.2))
    go (inr p) (inr q) = omega (arith, p.1, q.1, e p.0 q.0 w p.2 q.2)

pub in_left : (l m : List ℕ) (w : ℕ) → In w l → In w (l ++ m)
in_left l m w a = (a.0, at_left m a.1)

pub in_right : (l m : List ℕ) (w : ℕ) → In w m → In w (l ++ m)
in_right l m w a = (length l + a.0, at_right l a.1)

-- ---- the test

pub among_true : (l : List ℕ) (w : ℕ) → among l w ≡ true → In w l
among_true [] w p = absurd (mathlib.Core.Bool.false≢true p)
among_true (x ∷ l) w p = go (λ (r : among l w ≡ true). among_true l w r) (eqb x w) refl p
  where
    go : (among l w ≡ true → In w l) → (b : Bool) → eqb x w ≡ b → (b || among l w) ≡ true → In w (x ∷ l)
    go ih true q r = (0, first (eqb-true x w q))
    go ih false q r = let a = ih r in (suc a.0, later a.1)

pub among_false : (l : List ℕ) (w : ℕ) → among l w ≡ false → In w l → ⊥
among_false [] w p a = at_nil a.1
among_false (x ∷ l) w p a = go (λ (r : among l w ≡ false). among_false l w r) (eqb x w) refl p (in_cons x l w a)
  where
    go : (among l w ≡ false → In w l → ⊥) → (b : Bool) → eqb x w ≡ b → (b || among l w) ≡ false → (x ≡ w) ⊎ In w l → ⊥
    go ih true q r m = mathlib.Core.Bool.true≢false r
    go ih false q r (inl e) = eqb-false x w q e
    go ih false q r (inr m) = ih r m

-- ---- counting

split_in : {l : List ℕ} {i x : ℕ} → At l i x → (a b : List ℕ) × (l ≡ a ++ x ∷ b)
split_in (first {x = y} {l = t} p) = ([], t, ap (λ (v : ℕ). v ∷ t) p)
split_in (later {x = y} a) = let r = split_in a in (y ∷ r.0, r.1, ap {B = List ℕ} (λ t. y ∷ t) r.2)

pub pigeon : (a b : List ℕ) → Distinct a → ((i x : ℕ) → At a i x → In x b) → length a ≤ length b
pigeon [] b d sub = zero-le
pigeon (x ∷ a) b d sub = fin (λ (t : List ℕ) (d' : Distinct a) (f : (i y : ℕ) → At a i y → In y t). pigeon a t d' f) (split_in (sub 0 x (first refl)).1)
  where
    fin : ((t : List ℕ) → Distinct a → ((i y : ℕ) → At a i y → In y t) → length a ≤ length t) → (l r : List ℕ) × (b ≡ l ++ x ∷ r) → suc (length a) ≤ length b
    fin rec s =
        let l = s.0 in
        let r = s.1 in
        let rest : (i y : ℕ) → At a i y → In y (l ++ r) = λ i y at. squeeze l r i y at (subst (λ (t : List ℕ). In y t) s.2 (sub (suc i) y (later at))) in
        let ih = rec (l ++ r) (distinct_tail x a d) rest in
        omega (arith, ih, ap length s.2, length-append l (x ∷ r), length-append l r)
      where
        squeeze : (l r : List ℕ) (i y : ℕ) → At a i y → In y (l ++ x ∷ r) → In y (l ++ r)
        squeeze l r i y at m = go (in_append l (x ∷ r) y m)
          where
            go' : (x ≡ y) ⊎ In y r → In y (l ++ r)
            go' (inl p) = absurd (distinct_head x a d (i, subst (λ (v : ℕ). At a i v) (sym p) at))
            go' (inr q) = in_right l r y q

            go : In y l ⊎ In y (x ∷ r) → In y (l ++ r)
            go (inl p) = in_left l r y p
            go (inr p) = go' (in_cons x r y p)

pub length_numbers : (n : ℕ) → length (numbers n) ≡ n
length_numbers zero = refl
length_numbers (suc n) = length-append (numbers n) (n ∷ []) ∙ omega (arith, length_numbers n)

pub in_numbers : (n w : ℕ) → w < n → In w (numbers n)
in_numbers zero w h = absurd (omega arith)
in_numbers (suc n) w h = go (λ (p : w < n). in_numbers n w p) (below_or w n)
  where
    go : (w < n → In w (numbers n)) → (w < n) ⊎ (n ≤ w) → In w (numbers n ++ (n ∷ []))
    go ih (inl p) = in_left (numbers n) (n ∷ []) w (ih p)
    go ih (inr p) = in_right (numbers n) (n ∷ []) w (0, first (omega arith))

pub numbers_below : (n w : ℕ) → In w (numbers n) → w < n
numbers_below zero w a = absurd (at_nil a.1)
numbers_below (suc n) w a = go (λ (p : In w (numbers n)). numbers_below n w p) (in_append (numbers n) (n ∷ []) w a)
  where
    go : (In w (numbers n) → w < n) → In w (numbers n) ⊎ In w (n ∷ []) → w < suc n
    go ih (inl p) = let q = ih p in omega arith
    go ih (inr p) = omega (arith, (one_at p.1).1)

pub numbers_distinct : (n : ℕ) → Distinct (numbers n)
numbers_distinct zero = distinct_nil
numbers_distinct (suc n) = distinct_append (numbers n) (n ∷ []) (numbers_distinct n) (distinct_one n)
    (λ w a b. let p = numbers_below n w a in let q = (one_at b.1).1 in omega arith)

-- distinct numbers below n are at most n
pub few : (n : ℕ) (a : List ℕ) → Distinct a → ((i w : ℕ) → At a i w → w < n) → length a ≤ n
few n a d lt = let p = pigeon a (numbers n) d (λ i x at. in_numbers n x (lt i x at)) in omega (arith, length_numbers n)

-- and n of them are all
pub all : (n : ℕ) (a : List ℕ) → Distinct a → ((i w : ℕ) → At a i w → w < n) → n ≤ length a → (p : ℕ) → p < n → In p a
all n a d lt le p h = go (among a p) refl
  where
    go : (b : Bool) → among a p ≡ b → In p a
    go true q = among_true a p q
    go false q = absurd (omega (arith, few n (p ∷ a) (distinct_cons p a (among_false a p q) d) below))
      where
        below : (i w : ℕ) → At (p ∷ a) i w → w < n
        below i w x = go' (at_cons x)
          where
            go' : ((i ≡ zero) × (p ≡ w)) ⊎ ((k : ℕ) × (i ≡ suc k) × At a k w) → w < n
            go' (inl y) = omega (arith, y.1)
            go' (inr y) = lt y.0 w y.2
