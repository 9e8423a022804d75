-- The lesser of two is the smaller number.
use Rattle.std.specs.Prelude.{ℕ, ◌≡◌, min}
use Rattle.std.proofs.Common.{⊎_elim, arith, lt-ltb, le-ltb}
use Rattle.law.specs.Truth.{below_or}
use Rattle.order_definition.specs.Envelope.{lesser}

pub lesser_is : (a b : ℕ) → min a b ≡ lesser a b
lesser_is a b = ⊎_elim (λ h. rw (lt-ltb b a h) (omega arith)) (λ h. rw (le-ltb b a h) (omega arith)) (below_or b a)
