-- A list of vectors, part by part: a vector is its two numbers, and a list that holds every part is the mix of them.
use Rattle.std.specs.Prelude.{ℕ, zero, suc, ◌+◌, ◌*◌, ◌≤◌, ◌<◌, List, [], ◌∷◌, ◌++◌, ◌≡◌, refl, length, get_or, drop, take, replicate, Float}
use Rattle.std.proofs.Common.{arith, ◌∙◌, add-zero, length-append, length-drop, length-take-le}
use Rattle.std.proofs.Math.ListN.{get_or-append}
use Rattle.std.proofs.lemmas.List.{length-replicate, get_or-replicate}
use Rattle.std.proofs.lemmas.Slice.{drop-append-drop}
use Rattle.std.specs.Float.{nan}
use Rattle.law.specs.Mix.{mix}
use Rattle.law.proofs.Mix.{mix_of}
use Rattle.plane.specs.Plane.{Vector, pair, x, y, zero32, zero_of}
use Rattle.plane.specs.Lent.{vector_at}

-- a vector is its two numbers
whole : (v : Vector) → length v ≡ 2 → pair (x v) (y v) ≡ v
whole [] h = absurd (omega arith)
whole (a ∷ []) h = absurd (omega arith)
whole (a ∷ b ∷ []) h = refl
whole (a ∷ b ∷ c ∷ v) h = absurd (omega arith)

pub of_parts : (u v : Vector) → u ≡ v → length v ≡ 2 → pair (x u) (y u) ≡ v
of_parts u v e h = rw e (whole v h)

-- p, in front of the rest of l, is f's parts over the front of l, where each two numbers of p are a part
pub front_of : (f : ℕ → Vector) → ((j : ℕ) → length (f j) ≡ 2) → (n : ℕ) (p l : List Float) → length p ≡ 2 * n → 2 * n ≤ length l
    → ((j : ℕ) → j < n → vector_at p j ≡ f j) → p ++ drop (2 * n) l ≡ mix 2 n f l
front_of f long n p l e room h =
    mix_of 2 nan f long n l (p ++ drop (2 * n) l) (rw (length-append, length-drop) (omega arith)) part (drop-append-drop (2 * n) l p (2 * n) (omega arith) e)
  where
    part : (j : ℕ) → j < n → (i : ℕ) → i < 2 → get_or (p ++ drop (2 * n) l) (2 * j + i) nan ≡ get_or (f j) i nan
    part j g i less = get_or-append p (drop (2 * n) l) nan (2 * j + i) (omega arith) ∙ number i less
      where
        number : (i : ℕ) → i < 2 → get_or p (2 * j + i) nan ≡ get_or (f j) i nan
        number zero less = rw (add-zero, ← h j g)
        number (suc zero) less = rw (← h j g)
        number (suc (suc i)) less = absurd (omega arith)

pub cleared : (n : ℕ) (l : List Float) → 2 * n ≤ length l → replicate (length (take (2 * n) l)) zero32 ++ drop (2 * n) l ≡ mix 2 n (λ k. zero_of) l
cleared n l room =
    rw (length-take-le (2 * n) l room) (
    front_of (λ k. zero_of) (λ j. refl) n (replicate (2 * n) zero32) l (length-replicate (2 * n) zero32) room
    (λ j h. rw (get_or-replicate (2 * n) (2 * j) zero32 nan (omega arith), get_or-replicate (2 * n) (2 * j + 1) zero32 nan (omega arith))))
