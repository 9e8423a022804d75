-- WHAT THE PLAN'S TEST MAY LEAVE OUT: an order that its inverse undoes undoes the inverse, since n numbers below n that differ are all of them; and
-- row starts that begin at 0 and grow as they are to are small, so that the sum may be taken in 32 bits.
use Rattle.std.specs.Prelude.{ℕ, ◌+◌, ◌-◌, ◌%◌, Bool}
use Rattle.std.proofs.Math.Dec.{eqb}

-- ---- row starts

-- row r is as long as it has columns, with what stands there taken to 31 bits
unfoldable pub step_ok : (ℕ → ℕ) → (ℕ → ℕ) → ℕ → Bool
step_ok f s r = eqb (s (r + 1)) (s r % 2147483648 + (r - f r + 1))
