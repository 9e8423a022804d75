-- What follows of specs/Every.antt: its theorems, apart from the definitions.
use Prim.Native.Nat.{ℕ, zero, suc, ◌+◌, ◌-◌, ◌≤◌, ◌<◌}
use Rattle.std.proofs.Math.Path.{◌≡◌, refl}
use Rattle.std.specs.Prelude.{Bool, true, false, ◌&&◌, ◌||◌}
use Rattle.std.proofs.Math.Logic.{⊎_elim}
use native.Mathlib.Omega.{arith}
use Rattle.law.specs.Loop.{fold, over}
use Rattle.law.proofs.Loop.{over_none, over_more}
use Rattle.law.specs.Truth.{both, and_true, either, or_right, below_or}
use Rattle.law.specs.Every.{every, some}

-- the two steps of a loop that tests
pub every_none : (p : ℕ → Bool) (a : ℕ) → true ≡ every p a a
unfolding every
every_none p a = over_none (λ k ok. ok && p k) a true

pub every_more : (p : ℕ → Bool) (a k : ℕ) → a ≤ k → (every p a k && p k) ≡ every p a (k + 1)
unfolding every
every_more p a k h = over_more (λ k ok. ok && p k) a k true h

pub some_none : (p : ℕ → Bool) (a : ℕ) → false ≡ some p a a
unfolding some
some_none p a = over_none (λ k ok. ok || p k) a false

pub some_more : (p : ℕ → Bool) (a k : ℕ) → a ≤ k → (some p a k || p k) ≡ some p a (k + 1)
unfolding some
some_more p a k h = over_more (λ k ok. ok || p k) a k false h

module _ (p : ℕ → Bool) (a : ℕ) where
  all_at : (n : ℕ) → fold (λ k ok. ok && p k) a n true ≡ true → (j : ℕ) → j < n → p (a + j) ≡ true
  unfolding fold
  all_at zero h j g = absurd (omega arith)
  all_at (suc n) h j g =
      let q = both (fold (λ k ok. ok && p k) a n true) (p (a + n)) h in
      ⊎_elim (λ l. all_at n q.0 j l) (λ r. let e : j ≡ n = omega arith in rw e q.1) (below_or j n)

  all_of : (n : ℕ) → ((j : ℕ) → j < n → p (a + j) ≡ true) → fold (λ k ok. ok && p k) a n true ≡ true
  unfolding fold
  all_of zero h = refl
  all_of (suc n) h = and_true _ _ (all_of n (λ j l. h j (omega arith))) (h n (omega arith))

  one_at : (n : ℕ) → fold (λ k ok. ok || p k) a n false ≡ true → (j : ℕ) × ((j < n) × (p (a + j) ≡ true))
  unfolding fold
  one_at zero h = absurd (let z : ◌≡◌ {A = ℕ} 0 1 = cc in omega arith)
  one_at (suc n) h =
      ⊎_elim (λ l. let q = one_at n l in (q.0, (omega (arith, q.1.0), q.1.1))) (λ r. (n, (omega arith, r)))
      (either (fold (λ k ok. ok || p k) a n false) (p (a + n)) h)

  one_of : (n j : ℕ) → j < n → p (a + j) ≡ true → fold (λ k ok. ok || p k) a n false ≡ true
  unfolding fold
  one_of zero j h t = absurd (omega arith)
  one_of (suc n) j h t =
      ⊎_elim (λ l. rw (one_of n j l t)) (λ r. let e : j ≡ n = omega arith in or_right (fold (λ k ok. ok || p k) a n false) (p (a + n)) (rw e at t))
      (below_or j n)

  -- the test of every number passes exactly if each number's does
  pub every_at : (b : ℕ) → every p a b ≡ true → (k : ℕ) → a ≤ k → k < b → p k ≡ true
  unfolding every over
  every_at b h k g l =
      let e : a + (k - a) ≡ k = omega arith in
      rw e at (all_at (b - a) h (k - a) (omega arith))

  pub every_of : (b : ℕ) → ((k : ℕ) → a ≤ k → k < b → p k ≡ true) → every p a b ≡ true
  unfolding every over
  every_of b h = all_of (b - a) (λ j l. h (a + j) (omega arith) (omega arith))

  -- the test of some number passes exactly if one number's does
  pub some_at : (b : ℕ) → some p a b ≡ true → (k : ℕ) × ((a ≤ k) × ((k < b) × (p k ≡ true)))
  unfolding some over
  some_at b h = let q = one_at (b - a) h in let l = q.1.0 in (a + q.0, (omega arith, (omega arith, q.1.1)))

  pub some_of : (b k : ℕ) → a ≤ k → k < b → p k ≡ true → some p a b ≡ true
  unfolding some over
  some_of b k g l t =
      let e : a + (k - a) ≡ k = omega arith in
      one_of (b - a) (k - a) (omega arith) (rw e t)
