-- THE NUMBERS OF A RANGE THAT PASS A TEST, the least first, and the place at which each stands.
use Rattle.std.specs.Prelude.{ℕ, ◌≤◌, ◌<◌, ◌≡◌, refl, Bool, true, false, List, [], ◌∷◌, length}
use Rattle.std.proofs.Common.{arith}
use Rattle.law.specs.Gather.{gather, up_to}

-- one number or none
abbrev pub only_if : Bool → ℕ → List ℕ
only_if true x = x ∷ []
only_if false x = []

-- the numbers of a..b that pass the test
abbrev pub keep : (ℕ → Bool) → ℕ → ℕ → List ℕ
keep p a b = gather (λ c. only_if (p c) c) a b

-- how many below c pass
abbrev pub rank : (ℕ → Bool) → ℕ → ℕ
rank p c = up_to (λ c. only_if (p c) c) c

module _ (p : ℕ → Bool) where
  pub one : (t : Bool) (c j : ℕ) → j < length (only_if t c) → (t ≡ true) × (j ≡ 0)
  one true c j h = (refl, omega arith)
  one false c j h = absurd (omega arith)

pub at_most_one : (t : Bool) (c : ℕ) → length (only_if t c) ≤ 1
at_most_one true c = omega arith
at_most_one false c = omega arith
