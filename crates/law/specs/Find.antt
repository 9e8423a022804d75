-- THE FIRST NUMBER OF A RANGE THAT PASSES A TEST, and another number where none does.
use Prim.Native.Nat.{ℕ, zero, suc, ◌+◌, ◌-◌, ◌≤◌, ◌<◌}
use Rattle.std.proofs.Math.Path.{◌≡◌, refl}
use Rattle.std.specs.Prelude.{Bool, cond}
use Rattle.std.proofs.Math.Bool.{true, false}
use Rattle.std.proofs.Math.Logic.{⊎_elim}
use native.Mathlib.Omega.{arith}
use Rattle.law.specs.Truth.{below_or}

-- among n numbers from a on, d where none passes. What a `let` binds waits, so nothing past the first is looked at
unfoldable pub seek : (ℕ → Bool) → ℕ → ℕ → ℕ → ℕ
seek p a zero d = d
seek p a (suc n) d = let later = seek p (suc a) n d in cond (p a) a later

unfoldable pub find : (ℕ → Bool) → ℕ → ℕ → ℕ → ℕ
find p a b d = seek p a (b - a) d

module _ (p : ℕ → Bool) (d : ℕ) where
  seek_none : (n a : ℕ) → ((j : ℕ) → a ≤ j → j < a + n → p j ≡ false) → seek p a n d ≡ d
  unfolding seek
  seek_none zero a h = refl
  seek_none (suc n) a h = rw (h a (omega arith) (omega arith)) (seek_none n (suc a) (λ j l m. h j (omega arith) (omega arith)))

  seek_first : (n a k : ℕ) → a ≤ k → k < a + n → p k ≡ true → ((j : ℕ) → a ≤ j → j < k → p j ≡ false) → seek p a n d ≡ k
  unfolding seek
  seek_first zero a k l m t h = absurd (omega arith)
  seek_first (suc n) a k l m t h =
      ⊎_elim (λ g. rw (h a (omega arith) g) (seek_first n (suc a) k g (omega arith) t (λ j u v. h j (omega arith) v)))
      (λ g. let e : a ≡ k = omega arith in rw (e, t)) (below_or a k)

  -- none passes
  pub find_none : (a b : ℕ) → ((j : ℕ) → a ≤ j → j < b → p j ≡ false) → find p a b d ≡ d
  unfolding find
  find_none a b h = seek_none (b - a) a (λ j l m. h j l (omega arith))

  -- k is the first that passes
  pub find_first : (a b k : ℕ) → a ≤ k → k < b → p k ≡ true → ((j : ℕ) → a ≤ j → j < k → p j ≡ false) → find p a b d ≡ k
  unfolding find
  find_first a b k l m t h = seek_first (b - a) a k l (omega arith) t h

  -- one that passes keeps the answer within the range
  pub seek_in : (n a k : ℕ) → a ≤ k → k < a + n → p k ≡ true → (a ≤ seek p a n d) × (seek p a n d < a + n)
  unfolding seek
  seek_in zero a k l m t = absurd (omega arith)
  seek_in (suc n) a k l m t = here (p a) refl (λ h. seek_in n (suc a) k h (omega arith) t)
    where
      here : (x : Bool) → p a ≡ x → (suc a ≤ k → (suc a ≤ seek p (suc a) n d) × (seek p (suc a) n d < suc a + n)) → (a ≤ seek p a (suc n) d)
          × (seek p a (suc n) d < a + suc n)
      here true e later = rw e (omega arith)
      here false e later =
          let h : suc a ≤ k = ⊎_elim (λ g. g) (λ g. absurd (let q : a ≡ k = omega arith in let z : ◌≡◌ {A = ℕ} 0 1 = cc in omega arith)) (below_or a k) in
          let i = later h in
          rw e (omega arith)
