-- THE PRECONDITIONER: each diagonal block's inverse, or the identity where an entry of the inverse isn't finite.
use Rattle.std.specs.Prelude.{ℕ, ◌+◌, ◌*◌, ◌≤◌, ◌<◌, ◌≡◌, true, false, cond, List, length, get_or, Float}
use Rattle.plane.specs.Plane.{Block, inverse_of, block_finite}
use Rattle.plane.specs.Lent.{block_at, flat}
use Rattle.matrix_values.specs.Blocks.{identity}

unfoldable pub or_identity : Block → Block
or_identity m = cond (block_finite m) m identity

abbrev pub inverse_or : Block → Block
inverse_or m = or_identity (inverse_of m)

-- as the code makes the test
pub kept : (m : Block) → block_finite m ≡ true → m ≡ or_identity m
unfolding or_identity
kept m t = rw t

pub dropped : (m : Block) → block_finite m ≡ false → identity ≡ or_identity m
unfolding or_identity
dropped m t = rw t

-- row r's
unfoldable pub inverse_at : List ℕ → List Float → ℕ → List Float
inverse_at diagonal blocks r = flat (inverse_or (block_at blocks (get_or diagonal r 0)))

-- each row's diagonal slot lies within the values
pub record Slots (n : ℕ) (diagonal : List ℕ) (blocks : List Float) : Type 0 where
  pub marks : n ≤ length diagonal
  pub values : (r : ℕ) → r < n → 4 * get_or diagonal r 0 + 3 < length blocks
