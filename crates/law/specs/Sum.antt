-- SUMS over the numbers below n, and how many of them pass a test.
use Prim.Native.Nat.{ℕ, zero, suc, ◌+◌, ◌≤◌, ◌<◌}
use Rattle.std.specs.Prelude.{◌≡◌, refl, Bool, true, false, eqb}
use Rattle.std.proofs.Common.{sym, le_refl, add-one}
use Rattle.std.proofs.Math.Logic.{⊎_elim}
use native.Mathlib.Omega.{arith}
use borrow.Author.Tests.{eq-eqb, ne_eqb}
use Rattle.law.specs.Truth.{below_or}

unfoldable pub sum : (ℕ → ℕ) → ℕ → ℕ
sum f zero = 0
sum f (suc n) = sum f n + f n

pub sum_none : (f : ℕ → ℕ) → sum f 0 ≡ 0
unfolding sum
sum_none f = refl

pub sum_more : (f : ℕ → ℕ) (n : ℕ) → sum f (n + 1) ≡ sum f n + f n
unfolding sum
sum_more f n = rw (add-one n)

-- ---- two sums, term by term

pub sum_same : (f g : ℕ → ℕ) (n : ℕ) → ((k : ℕ) → k < n → f k ≡ g k) → sum f n ≡ sum g n
unfolding sum
sum_same f g zero h = refl
sum_same f g (suc n) h = rw (sum_same f g n (λ k l. h k (omega arith)), h n (omega arith))

pub sum_most : (f g : ℕ → ℕ) (n : ℕ) → ((k : ℕ) → k < n → f k ≤ g k) → sum f n ≤ sum g n
unfolding sum
sum_most f g zero h = le_refl 0
sum_most f g (suc n) h = let i = sum_most f g n (λ k l. h k (omega arith)) in let j = h n (omega arith) in omega arith

-- terms that are no larger, and together no smaller, are the same
pub sum_tight : (f g : ℕ → ℕ) (n : ℕ) → ((k : ℕ) → k < n → f k ≤ g k) → sum g n ≤ sum f n → (k : ℕ) → k < n → g k ≤ f k
unfolding sum
sum_tight f g zero h e k l = absurd (omega arith)
sum_tight f g (suc n) h e k l =
    let i = sum_most f g n (λ j o. h j (omega arith)) in
    let last = h n (omega arith) in
    ⊎_elim (λ m. sum_tight f g n (λ j o. h j (omega arith)) (omega arith) k m) (λ (m : n ≤ k). let q : k ≡ n = omega arith in rw q (omega arith))
    (below_or k n)

pub sum_plus : (f g : ℕ → ℕ) (n : ℕ) → sum (λ k. f k + g k) n ≡ sum f n + sum g n
unfolding sum
sum_plus f g zero = refl
sum_plus f g (suc n) = let i = sum_plus f g n in omega arith

pub sum_nothing : (f : ℕ → ℕ) (n : ℕ) → ((k : ℕ) → k < n → f k ≡ 0) → sum f n ≡ 0
unfolding sum
sum_nothing f zero h = refl
sum_nothing f (suc n) h = rw (sum_nothing f n (λ k l. h k (omega arith)), h n (omega arith))

-- a table's sum by rows and by columns
pub sum_swap : (f : ℕ → ℕ → ℕ) (n m : ℕ) → sum (λ i. sum (λ j. f i j) m) n ≡ sum (λ j. sum (λ i. f i j) n) m
unfolding sum
sum_swap f zero m = sym (sum_nothing (λ j. 0) m (λ k l. refl))
sum_swap f (suc n) m = rw (sum_swap f n m) (sym (sum_plus (λ j. sum (λ i. f i j) n) (λ j. f n j) m))

-- ---- how many pass a test

unfoldable pub bit : Bool → ℕ
bit true = 1
bit false = 0

-- how many of the numbers below n are x: one if x is below n, and else none
module _ (x : ℕ) where
  pub none_of : (n : ℕ) → n ≤ x → sum (λ j. bit (eqb x j)) n ≡ 0
  unfolding bit
  none_of n h = sum_nothing (λ j. bit (eqb x j)) n (λ k l. rw (ne_eqb x k (λ q. omega arith)))

  pub one_of : (n : ℕ) → x < n → sum (λ j. bit (eqb x j)) n ≡ 1
  unfolding sum bit
  one_of zero h = absurd (omega arith)
  one_of (suc n) h =
      ⊎_elim (λ l. rw (one_of n l, ne_eqb x n (λ q. omega arith)))
      (λ l. let e : x ≡ n = omega arith in rw (none_of n l, eq-eqb x n e)) (below_or x n)
