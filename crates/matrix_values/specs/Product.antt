-- THE PRODUCT OF A BLOCK MATRIX AND A VECTOR: row r's part is the sum of its blocks times the vector's parts, slot by slot, from (+0.0, +0.0).
use Rattle.std.specs.Prelude.{ℕ, ◌+◌, ◌*◌, ◌≤◌, ◌<◌, List, length, get_or, Float}
use Rattle.std.proofs.Common.{arith}
use Rattle.law.specs.Loop.{over}
use Rattle.plane.specs.Plane.{Vector, x, y, pair, zero_of, add_of, times_of}
use Rattle.plane.specs.Lent.{vector_at, block_at}
use Rattle.matrix_shape.specs.Rows.{at, Rows, row_end}

-- one slot's turn of a row's sum
unfoldable pub slot_step : List ℕ → List Float → List Float → ℕ → Vector → Vector
slot_step cols blocks v k sum = add_of sum (times_of (block_at blocks k) (vector_at v (get_or cols k 0)))

-- the sum over the slots of a..b
unfoldable pub row_sum : List ℕ → List Float → List Float → ℕ → ℕ → Vector
row_sum cols blocks v a b = over (slot_step cols blocks v) a b zero_of

-- row r of the product, as two numbers
unfoldable pub product_at : List ℕ → List ℕ → List Float → List Float → ℕ → Vector
product_at starts cols blocks v r = let sum = row_sum cols blocks v (get_or starts r 0) (get_or starts (r + 1) 0) in pair (x sum) (y sum)

-- the slots of a..b lie within the lists, and so do the vector's parts that their columns name
pub record RowReach (cols : List ℕ) (blocks v : List Float) (a b : ℕ) : Type 0 where
  pub columns : b ≤ length cols
  pub values : 4 * b ≤ length blocks
  pub parts : (k : ℕ) → a ≤ k → k < b → 2 * at cols k + 1 < length v

pub row_reach : (n : ℕ) (starts cols : List ℕ) (blocks v : List Float) → Rows n starts cols → 4 * at starts n ≤ length blocks → 2 * n ≤ length v
    → (r : ℕ) → r < n → RowReach cols blocks v (at starts r) (at starts (r + 1))
row_reach n starts cols blocks v rows h g r l =
    let e = row_end n (at starts) rows.rise r l in
    record { columns = omega (arith, rows.columns); values = omega arith; parts = λ k i j. omega (arith, rows.below r k l (i, j)) }
