-- A PINNED ROW: identity on its diagonal, zero in the rest of the row and in the row's mirrors,
-- which are the slots of other rows that have its column; every other block as it was.
use Rattle.std.specs.Prelude.{ℕ, ◌+◌, List, Bool, cond, ◌&&◌, get_or, leb, ltb, eqb, Float}
use Rattle.plane.specs.Plane.{Block}
use Rattle.plane.specs.Lent.{block_at, flat}
use Rattle.matrix_values.specs.Blocks.{zero_block, identity}

-- slot k is one of the row's
abbrev pub in_row : List ℕ → ℕ → ℕ → Bool
in_row starts row k = leb (get_or starts row 0) k && ltb k (get_or starts (row + 1) 0)

unfoldable pub pinned_at : List ℕ → List ℕ → ℕ → List Float → ℕ → Block
pinned_at starts cols row blocks k =
    cond (in_row starts row k) (cond (eqb (get_or cols k 0) row) identity zero_block) (cond (eqb (get_or cols k 0) row) zero_block (block_at blocks k))

-- the four numbers of slot k
unfoldable pub pinned : List ℕ → List ℕ → ℕ → List Float → ℕ → List Float
pinned starts cols row blocks k = flat (pinned_at starts cols row blocks k)
