-- The later of two columns is the larger number.
use Rattle.std.specs.Prelude.{ℕ, ◌≡◌, max}
use Rattle.std.proofs.Common.{⊎_elim, arith, lt-ltb, le-ltb}
use Rattle.law.specs.Truth.{below_or}
use Rattle.factor_row.specs.Row.{later}

pub later_is : (a b : ℕ) → max a b ≡ later a b
unfolding later
later_is a b = ⊎_elim (λ h. rw (lt-ltb a b h) (omega arith)) (λ h. rw (le-ltb a b h) (omega arith)) (below_or a b)
