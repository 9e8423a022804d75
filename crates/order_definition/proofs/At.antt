-- What stands at a place of a list.
use Prim.Native.Nat.{ℕ, zero, suc, ◌+◌, ◌<◌, suc-le-suc, zero-le}
use native.Mathlib.Omega.{arith}
use native.Mathlib.Nat.{le_of_suc-le-suc, not-suc-le-zero, zero-add, suc-add}
use mathlib.Core.Path.{◌≡◌, refl, sym, ap, ◌∙◌, subst}
use mathlib.Core.Logic.{◌⊎◌, inl, inr}
use mathlib.Core.List.{List, [], ◌∷◌, ◌++◌, map, reverse, reverse-cons}
use lib.ListN.{length, get_or, length-reverse}

-- e stands at place i
pub data At {A : Type 0} : List A → ℕ → A → Type 0 where
  first : {x e : A} {l : List A} → x ≡ e → At (x ∷ l) zero e
  later : {x e : A} {l : List A} {i : ℕ} → At l i e → At (x ∷ l) (suc i) e

module _ {A : Type 0} where
  pub at_nil : {i : ℕ} {e : A} → At [] i e → ⊥
  at_nil a = elim a [ ]

  pub at_cons : {x : A} {l : List A} {i : ℕ} {e : A} → At (x ∷ l) i e → ((i ≡ zero) × (x ≡ e)) ⊎ ((j : ℕ) × (i ≡ suc j) × At l j e)
  at_cons (first p) = inl (refl, p)
  at_cons (later {i = j} a) = inr (j, refl, a)

  at_zero : {x : A} {l : List A} {e : A} → At (x ∷ l) zero e → x ≡ e
  at_zero (first p) = p

  at_suc : {x : A} {l : List A} {i : ℕ} {e : A} → At (x ∷ l) (suc i) e → At l i e
  at_suc (later a) = a

  pub at_lt : {l : List A} {i : ℕ} {e : A} → At l i e → i < length l
  at_lt (first p) = suc-le-suc zero-le
  at_lt (later a) = suc-le-suc (at_lt a)

  pub at_of : (l : List A) (i : ℕ) → i < length l → (e : A) × At l i e
  at_of [] i h = absurd (not-suc-le-zero h)
  at_of (x ∷ l) zero h = (x, first refl)
  at_of (x ∷ l) (suc i) h = let r = at_of l i (le_of_suc-le-suc h) in (r.0, later r.1)

  pub at_get_or : {l : List A} {i : ℕ} {e : A} (d : A) → At l i e → get_or l i d ≡ e
  at_get_or d (first p) = p
  at_get_or d (later a) = at_get_or d a

  pub get_d_at : (l : List A) (i : ℕ) (d : A) → i < length l → At l i (get_or l i d)
  get_d_at [] i d h = absurd (not-suc-le-zero h)
  get_d_at (x ∷ l) zero d h = first refl
  get_d_at (x ∷ l) (suc i) d h = later (get_d_at l i d (le_of_suc-le-suc h))

  pub at_fun : {l : List A} {i : ℕ} {e f : A} → At l i e → At l i f → e ≡ f
  at_fun (first p) b = sym p ∙ at_zero b
  at_fun (later a) b = at_fun a (at_suc b)

  pub at_left : {l : List A} (m : List A) {i : ℕ} {e : A} → At l i e → At (l ++ m) i e
  at_left m (first p) = first p
  at_left m (later a) = later (at_left m a)

  pub at_right : (l : List A) {m : List A} {i : ℕ} {e : A} → At m i e → At (l ++ m) (length l + i) e
  at_right [] {m} {i} {e} a = subst (λ (k : ℕ). At m k e) (sym (zero-add i)) a
  at_right (x ∷ l) {m} {i} {e} a = subst (λ (k : ℕ). At (x ∷ (l ++ m)) k e) (sym (suc-add (length l) i)) (later (at_right l a))

  pub at_cases : (l : List A) {m : List A} {i : ℕ} {e : A} → At (l ++ m) i e → At l i e ⊎ ((j : ℕ) × (i ≡ length l + j) × At m j e)
  at_cases [] {m} {i} a = inr (i, sym (zero-add i), a)
  at_cases (x ∷ l) {m} {i} {e} a = step (λ (j : ℕ) (b : At (l ++ m) j e). at_cases l b) (at_cons a)
    where
      next : (j : ℕ) → i ≡ suc j → At l j e ⊎ ((k : ℕ) × (j ≡ length l + k) × At m k e) → At (x ∷ l) i e ⊎ ((k : ℕ) × (i ≡ suc (length l) + k) × At m k e)
      next j p (inl b) = inl (subst (λ (k : ℕ). At (x ∷ l) k e) (sym p) (later b))
      next j p (inr b) = inr (b.0, p ∙ ap suc b.1 ∙ sym (suc-add (length l) b.0), b.2)

      step : ((j : ℕ) → At (l ++ m) j e → At l j e ⊎ ((k : ℕ) × (j ≡ length l + k) × At m k e))
          → ((i ≡ zero) × (x ≡ e)) ⊎ ((j : ℕ) × (i ≡ suc j) × At (l ++ m) j e)
          → At (x ∷ l) i e ⊎ ((k : ℕ) × (i ≡ suc (length l) + k) × At m k e)
      step ih (inl b) = inl (subst (λ (k : ℕ). At (x ∷ l) k e) (sym b.0) (first b.1))
      step ih (inr b) = next b.0 b.1 (ih b.0 b.2)

  pub one_at : {x : A} {i : ℕ} {e : A} → At (x ∷ []) i e → (i ≡ zero) × (x ≡ e)
  one_at {x} {i} {e} a = go (at_cons a)
    where
      go : ((i ≡ zero) × (x ≡ e)) ⊎ ((j : ℕ) × (i ≡ suc j) × At [] j e) → (i ≡ zero) × (x ≡ e)
      go (inl p) = p
      go (inr p) = absurd (at_nil p.2)

  -- e is in the list
  abbrev pub In : A → List A → Type 0
  In e l = (i : ℕ) × At l i e

module _ {A B : Type 0} (f : A → B) where
  pub at_map : {l : List A} {i : ℕ} {e : A} → At l i e → At (map f l) i (f e)
  at_map (first p) = first (ap f p)
  at_map (later a) = later (at_map a)

  pub at_unmap : (l : List A) {i : ℕ} {y : B} → At (map f l) i y → (e : A) × At l i e × (f e ≡ y)
  at_unmap [] a = absurd (at_nil a)
  at_unmap (x ∷ l) {i} {y} a = step (λ (j : ℕ) (b : At (map f l) j y). at_unmap l b) (at_cons a)
    where
      step : ((j : ℕ) → At (map f l) j y → (e : A) × At l j e × (f e ≡ y))
          → ((i ≡ zero) × (f x ≡ y)) ⊎ ((j : ℕ) × (i ≡ suc j) × At (map f l) j y)
          → (e : A) × At (x ∷ l) i e × (f e ≡ y)
      step ih (inl b) = (x, subst (λ (k : ℕ). At (x ∷ l) k x) (sym b.0) (first refl), b.1)
      step ih (inr b) = let r = ih b.0 b.2 in (r.0, subst (λ (k : ℕ). At (x ∷ l) k r.0) (sym b.1) (later r.1), r.2)

-- the places of the reversed list
pub at_reverse : {A : Type 0} {l : List A} {j : ℕ} {e : A} → At l j e → (i : ℕ) → suc (i + j) ≡ length l → At (reverse l) i e
at_reverse {A} (first {x = x} {e = e} {l = l} p) i h =
    subst (λ (t : List A). At t i e) (sym (reverse-cons x l))
    (subst (λ (k : ℕ). At (reverse l ++ (x ∷ [])) k e) (omega (arith, length-reverse l)) (at_right (reverse l) (first p)))
at_reverse {A} (later {x = x} {e = e} {l = l} a) i h = subst (λ (t : List A). At t i e) (sym (reverse-cons x l))
    (at_left (x ∷ []) (at_reverse a i (omega arith)))
