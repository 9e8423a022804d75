-- The table of the degrees.
use Prim.Native.Nat.{ℕ, zero, suc, ◌-◌, ◌≤◌, ◌<◌}
use native.Mathlib.Omega.{arith}
use mathlib.Core.Path.{◌≡◌, refl, sym, ap, ◌∙◌, subst}
use mathlib.Core.Logic.{◌⊎◌, inl, inr}
use mathlib.Core.Bool.{Bool, true, false, not}
use mathlib.Core.List.{List, [], ◌∷◌, ◌++◌}
use lib.ListN.{length, get_or, length-append, get_or-append, get_or-eq_default}
use lib.Seq.{slice, length-slice, take-suc, length-take-le, drop-nil}
use lib.Dec.{eqb}
use borrow.Author.Tests.{eqb-true, eqb-false}
use Rattle.law.specs.Truth.{below_or}
use Rattle.order_definition.specs.Order.{passing, cons_if, row, neighbours, degree}
use Rattle.order_definition.specs.Tight.{Tight}
use Rattle.order_definition.specs.Searches.{TableOf, degrees_to}
use Rattle.order_definition.proofs.At.{at_nil, In}
use Rattle.order_definition.proofs.Pigeon.{Distinct, distinct_head, distinct_tail, in_cons, in_head, in_tail}
use Rattle.order_definition.proofs.Rows.{row_distinct, row_fits, stored_row}

-- ---- a distinct list loses one

passing_none : (v : ℕ) (l : List ℕ) → (In v l → ⊥) → length (passing (λ c. not (eqb c v)) l) ≡ length l
passing_none v [] f = refl
passing_none v (x ∷ l) f = go (eqb x v) refl (passing_none v l (λ (a : In v l). f (in_tail x l v a)))
  where
    go : (b : Bool) → eqb x v ≡ b → length (passing (λ c. not (eqb c v)) l) ≡ length l → length (cons_if (not b) x (passing (λ c. not (eqb c v)) l))
        ≡ suc (length l)
    go true p ih = absurd (f (in_head x l v (eqb-true x v p)))
    go false p ih = ap suc ih

passing_one : (v : ℕ) (l : List ℕ) → Distinct l → In v l → suc (length (passing (λ c. not (eqb c v)) l)) ≡ length l
passing_one v [] d a = absurd (at_nil a.1)
passing_one v (x ∷ l) d a = go (λ (b : In v l). passing_one v l (distinct_tail x l d) b) (eqb x v) refl (in_cons x l v a)
  where
    go : (In v l → suc (length (passing (λ c. not (eqb c v)) l)) ≡ length l) → (b : Bool) → eqb x v ≡ b → (x ≡ v) ⊎ In v l
        → suc (length (cons_if (not b) x (passing (λ c. not (eqb c v)) l))) ≡ suc (length l)
    go ih true p m = ap suc (passing_none v l (λ (b : In v l). distinct_head x l d (subst (λ (w : ℕ). In w l) (sym (eqb-true x v p)) b)))
    go ih false p (inl e) = absurd (eqb-false x v p e)
    go ih false p (inr b) = ap suc (ih b)

module _ (n : ℕ) (starts cols : List ℕ) (tight : Tight n starts cols) where
  inner : (v : ℕ) → v < n → get_or starts (suc v) 0 - get_or starts v 0 - 1 ≡ degree (neighbours starts cols) v
  unfolding neighbours
  inner v lt =
      let len = length-slice (get_or starts v 0) (get_or starts (suc v) 0) cols (row_fits n starts cols tight v lt) in
      let one = passing_one v (row starts cols v) (row_distinct n starts cols tight v lt) (stored_row n starts cols tight v v lt (tight.diagonal v lt)) in
      omega (arith, len, one)

  outer : (v : ℕ) → n ≤ v → degree (neighbours starts cols) v ≡ 0
  unfolding neighbours
  outer v le =
      let e : get_or starts (suc v) 0 ≡ 0 = get_or-eq_default starts 0 (omega (arith, tight.rows)) in
      ap (λ (t : ℕ). length (passing (λ c. not (eqb c v)) (slice (get_or starts v 0) t cols))) e
      ∙ ap (λ (l : List ℕ). length (passing (λ c. not (eqb c v)) l)) (drop-nil (get_or starts v 0))

length_degrees : (starts : List ℕ) (n : ℕ) → length (degrees_to starts n) ≡ n
length_degrees starts zero = refl
length_degrees starts (suc n) = length-append (degrees_to starts n) _ ∙ omega (arith, length_degrees starts n)

degrees_at : (starts : List ℕ) (n v : ℕ) → v < n → get_or (degrees_to starts n) v 0 ≡ get_or starts (suc v) 0 - get_or starts v 0 - 1
degrees_at starts zero v h = absurd (omega arith)
degrees_at starts (suc n) v h = go (λ (lt : v < n). degrees_at starts n v lt) (below_or v n)
  where
    x : ℕ
    x = get_or starts (suc n) 0 - get_or starts n 0 - 1

    go : (v < n → get_or (degrees_to starts n) v 0 ≡ get_or starts (suc v) 0 - get_or starts v 0 - 1) → (v < n) ⊎ (n ≤ v)
        → get_or (degrees_to starts n ++ (x ∷ [])) v 0 ≡ get_or starts (suc v) 0 - get_or starts v 0 - 1
    go ih (inr le) = let e : n ≡ v = omega arith in subst (λ (k : ℕ). get_or (degrees_to starts n ++ (x ∷ [])) k 0 ≡ get_or starts (suc k) 0 - get_or starts
        k 0 - 1) e (lib.Seq.get_or_at (degrees_to starts n) x [] 0 n (length_degrees starts n))
    go ih (inl lt) = get_or-append (degrees_to starts n) (x ∷ []) 0 v (omega (arith, length_degrees starts n)) ∙ ih lt

pub degrees_table : (n : ℕ) (starts cols degrees : List ℕ) → Tight n starts cols → degrees ≡ degrees_to starts n → TableOf starts cols n degrees
degrees_table n starts cols degrees tight e = record {
  long = ap length e ∙ length_degrees starts n;
  each = λ v. ap (λ (l : List ℕ). get_or l v 0) e
      ∙ go v (below_or v n);
}
  where
    go : (v : ℕ) → (v < n) ⊎ (n ≤ v) → get_or (degrees_to starts n) v 0 ≡ degree (neighbours starts cols) v
    go v (inr le) = get_or-eq_default (degrees_to starts n) 0 (omega (arith, length_degrees starts n)) ∙ sym (outer n starts cols tight v le)
    go v (inl lt) = degrees_at starts n v lt ∙ inner n starts cols tight v lt
