-- A TEST OF EVERY ELEMENT OF A LIST, and what its answer means, both ways.
use Prim.Native.Nat.{ℕ, zero, suc, ◌<◌}
use Rattle.std.specs.Prelude.{◌≡◌, Bool, true, ◌&&◌, length, get_or}
use Rattle.std.proofs.Math.Path.{refl}
use mathlib.Core.List.{List, [], ◌∷◌}
use Rattle.std.proofs.Common.{arith}
use Rattle.law.specs.Truth.{both, and_true}

unfoldable pub all : {A : Type 0} → (A → Bool) → List A → Bool
all p [] = true
all p (x ∷ l) = p x && all p l

module _ {A : Type 0} (p : A → Bool) (d : A) where
  pub all_at : (l : List A) → all p l ≡ true → (i : ℕ) → i < length l → p (get_or l i d) ≡ true
  unfolding all
  all_at [] h i g = absurd (omega arith)
  all_at (x ∷ l) h zero g = (both (p x) (all p l) h).0
  all_at (x ∷ l) h (suc i) g = all_at l (both (p x) (all p l) h).1 i (omega arith)

  pub all_of : (l : List A) → ((i : ℕ) → i < length l → p (get_or l i d) ≡ true) → all p l ≡ true
  unfolding all
  all_of [] h = refl
  all_of (x ∷ l) h = and_true (p x) (all p l) (h 0 (omega arith)) (all_of l (λ i g. h (suc i) (omega arith)))
