-- What follows of specs/Digits.antt: its theorems, apart from the definitions.
use Rattle.std.specs.Prelude.{ℕ, zero, suc, ◌+◌, ◌/◌, ◌%◌, ◌≤◌, ◌<◌, ◌≡◌, refl, Bool, true, false, [], ◌∷◌, ◌++◌, ltb}
use Rattle.std.proofs.Common.{arith, div-add-mod', lt-ltb, le-ltb, ltb-true, ltb-false}
use Rattle.law.specs.Decimal.{value, value_from, value_more}
use Rattle.bench_print.specs.Digits.{digits, digits_in}

pub tenth : (n : ℕ) → 10 ≤ n → n / 10 < n
tenth n h = omega (arith, div-add-mod' n 10)

more_case : (k j n : ℕ) (b : Bool) → ltb n 10 ≡ b → n ≤ suc k → n ≤ suc j → ((m : ℕ) → m ≤ k → m ≤ j → digits_in k m ≡ digits_in j m)
    → digits_in (suc k) n ≡ digits_in (suc j) n
unfolding digits_in
more_case k j n true e p q ih = rw e
more_case k j n false e p q ih =
    let t = tenth n (ltb-false n 10 e) in
    rw (e, ih (n / 10) (omega arith) (omega arith))

-- a bound that is large enough does not matter
enough : (k j n : ℕ) → n ≤ k → n ≤ j → digits_in k n ≡ digits_in j n
unfolding digits_in
enough zero zero n p q = refl
enough zero (suc j) n p q = let e : n ≡ 0 = omega arith in rw e
enough (suc k) zero n p q = let e : n ≡ 0 = omega arith in rw e
enough (suc k) (suc j) n p q = more_case k j n _ refl p q (λ m a b. enough k j m a b)

pub digits_one : (n : ℕ) → n < 10 → digits n ≡ (48 + n) ∷ []
unfolding digits digits_in
digits_one zero h = refl
digits_one (suc k) h = rw (lt-ltb (suc k) 10 h)

pub digits_more : (n : ℕ) → 10 ≤ n → digits n ≡ digits (n / 10) ++ ((48 + n % 10) ∷ [])
unfolding digits digits_in
digits_more zero h = absurd (omega arith)
digits_more (suc k) h =
    let t = tenth (suc k) h in
    rw (le-ltb (suc k) 10 h, enough k (suc k / 10) (suc k / 10) (omega arith) (omega arith))

back_case : (n : ℕ) (b : Bool) → ltb n 10 ≡ b → ((m : ℕ) → m < n → value (digits m) ≡ m) → value (digits n) ≡ n
unfolding value value_from
back_case n true e ih = rw (digits_one n (ltb-true n 10 e)) (omega arith)
back_case n false e ih =
    let t = ltb-false n 10 e in
    rw (digits_more n t, value_more 0 (digits (n / 10)) (48 + n % 10), ih (n / 10) (tenth n t)) (omega (arith, div-add-mod' n 10))

-- WHAT IS PRINTED READS BACK as the number
pub reads_back : (n : ℕ) → value (digits n) ≡ n
reads_back n = back n n (omega arith)
  where
    back : (k n : ℕ) → n ≤ k → value (digits n) ≡ n
    back zero n h = back_case n _ refl (λ m l. absurd (omega arith))
    back (suc k) n h = back_case n _ refl (λ m l. back k m (omega arith))
