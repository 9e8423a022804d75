-- Readings of the definitions, computed, as bit patterns. Assumes nothing.
use mathlib.Core.Path.{◌≡◌, refl}
use mathlib.Core.List.{List, [], ◌∷◌, map}
use Prim.Native.Nat.{ℕ}
use lib.Ieee.{Float, binary32, of_bits, to_bits, add, sub, mul, div, neg}
use Rattle.law.specs.Store.{written}
use Rattle.plane.specs.Plane.{Vector, Block, pair, c0, c1, zero_of, determinant_of, dot_of, inverse_of, times_of}
use Rattle.plane.specs.Lent.{flat, vector_at, block_at, with_vector, with_block}

shown : List Float → List ℕ
shown l = map (to_bits binary32) l

vector : ℕ → ℕ → Vector
vector a b = pair (of_bits binary32 a) (of_bits binary32 b)

-- the block with columns (4, 2) and (2, 10)
stiff : Block
stiff = pair (vector 0x40800000 0x40000000) (vector 0x40000000 0x41200000)

-- the block with columns (2, 0) and (0, 4)
plain : Block
plain = pair (vector 0x40000000 0) (vector 0 0x40800000)

-- -0.0 and 1.0, twice each
less : Vector
less = vector 0x80000000 0x80000000

ones : Vector
ones = vector 0x3F800000 0x3F800000

-- a lent slice of nine floats, told apart by their bits
row : List Float
row = map (of_bits binary32) (0 ∷ 1 ∷ 2 ∷ 3 ∷ 4 ∷ 5 ∷ 6 ∷ 7 ∷ 8 ∷ [])

record Readings : Type 0 where
  -- stiff times (1, 1) is (6, 12), its determinant is 36
  times : shown (times_of stiff ones) ≡ 0x40C00000 ∷ 0x41400000 ∷ []
  determinant : shown (determinant_of stiff ∷ []) ≡ 0x42100000 ∷ []
  -- the inverse of plain is (0.5, -0.0), (-0.0, 0.25): the zeros are made by a product with a negative number
  inverse : shown (flat (inverse_of plain)) ≡ 0x3F000000 ∷ 0x80000000 ∷ 0x80000000 ∷ 0x3E800000 ∷ []
  -- one particle's product is -0.0
  dot : shown (dot_of less ones ∷ []) ≡ 0x80000000 ∷ []
  zero : shown zero_of ≡ 0 ∷ 0 ∷ []
  -- part 1 of a slice: two floats from the second on, four from the fourth on, column 0 first
  vector_at : shown (vector_at row 1) ≡ 2 ∷ 3 ∷ []
  first_column : shown (c0 (block_at row 1)) ≡ 4 ∷ 5 ∷ []
  second_column : shown (c1 (block_at row 1)) ≡ 6 ∷ 7 ∷ []
  vector_put : shown (with_vector row 1 (vector 20 21)) ≡ 0 ∷ 1 ∷ 20 ∷ 21 ∷ 4 ∷ 5 ∷ 6 ∷ 7 ∷ 8 ∷ []
  block_put : shown (with_block row 1 (pair (vector 20 21) (vector 22 23))) ≡ 0 ∷ 1 ∷ 2 ∷ 3 ∷ 20 ∷ 21 ∷ 22 ∷ 23 ∷ 8 ∷ []

readings : Readings
unfolding shown vector stiff plain less ones row written of_bits to_bits add sub mul div neg
readings = record {
  times = refl;
  determinant = refl;
  inverse = refl;
  dot = refl;
  zero = refl;
  vector_at = refl;
  first_column = refl;
  second_column = refl;
  vector_put = refl;
  block_put = refl;
}
