-- ONE VECTOR OR BLOCK OF A LENT SLICE: two floats to a particle, four to a block, column 0 first.
use Rattle.std.specs.Prelude.{ℕ, ◌+◌, ◌*◌, List, [], ◌∷◌, get_or, Float}
use Rattle.std.specs.Float.{nan}
use Rattle.law.specs.Store.{written}
use Rattle.plane.specs.Plane.{Vector, Block, pair, x, y, c0, c1}

abbrev pub vector_at : List Float → ℕ → Vector
vector_at l k = pair (get_or l (2 * k) nan) (get_or l (2 * k + 1) nan)

abbrev pub block_at : List Float → ℕ → Block
block_at l k = pair (pair (get_or l (4 * k) nan) (get_or l (4 * k + 1) nan)) (pair (get_or l (4 * k + 2) nan) (get_or l (4 * k + 3) nan))

-- a block's four numbers in a row
abbrev pub flat : Block → List Float
flat m = x (c0 m) ∷ y (c0 m) ∷ x (c1 m) ∷ y (c1 m) ∷ []

abbrev pub with_vector : List Float → ℕ → Vector → List Float
with_vector l k v = written l (2 * k) (pair (x v) (y v))

abbrev pub with_block : List Float → ℕ → Block → List Float
with_block l k m = written l (4 * k) (flat m)
