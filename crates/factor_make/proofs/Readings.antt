-- Readings of the factor, computed from the blocks: the two of RULES.md § 11, one whose pivot is a NaN, and
-- one of two particles in the reverse order, whose lower block is stored. Assumes nothing.
use mathlib.Core.Path.{◌≡◌, refl}
use mathlib.Core.List.{List, [], ◌∷◌}
use lib.Ieee.{Float, nan, binary32, of_bits, add, sub, mul, div, lt}
use Rattle.law.specs.Loop.{over, fold}
use Rattle.flat_runs.specs.Run.{dot_run}
use Rattle.root.specs.Sqrt.{sqrt_of}
use Rattle.matrix_shape.specs.Rows.{at}
use Rattle.factor_load.specs.Load.{beside_of, corner_of, slot_into, slots_into, row_into, load_of}
use Rattle.factor_row.specs.Row.{later, reduced_of, entry_of, entry_step, left_of, square_step, pivot_of}
use Rattle.std.specs.Prelude.{Ok, Err}
use Rattle.factor_make.specs.Factored.{failed}
use Rattle.factor_make.specs.Factor.{State, state, close_of, row_of, row_step, factor_of}
use Rattle.factor_make.specs.Matrix.{matrix_of}

-- whole numbers as f32
abbrev one : Float
one = of_bits binary32 0x3f80_0000

abbrev two : Float
two = of_bits binary32 0x4000_0000

abbrev three : Float
three = of_bits binary32 0x4040_0000

abbrev four : Float
four = of_bits binary32 0x4080_0000

abbrev five : Float
five = of_bits binary32 0x40a0_0000

abbrev six : Float
six = of_bits binary32 0x40c0_0000

abbrev seven : Float
seven = of_bits binary32 0x40e0_0000

abbrev nine : Float
nine = of_bits binary32 0x4110_0000

abbrev ten : Float
ten = of_bits binary32 0x4120_0000

-- one particle's factor
alone : List Float → State
alone blocks = matrix_of 1 (at (0 ∷ 1 ∷ [])) (at (0 ∷ [])) blocks (at (0 ∷ [])) (at (0 ∷ 0 ∷ [])) (at (0 ∷ 1 ∷ 3 ∷ []))

-- of two particles the second comes first; the block above the diagonal, which has nines here, is not read
pair_blocks : List Float
pair_blocks = six ∷ five ∷ five ∷ ten ∷ two ∷ four ∷ seven ∷ five ∷ nine ∷ nine ∷ nine ∷ nine ∷ four ∷ two ∷ two ∷ ten ∷ []

record Readings : Type 0 where
  done : alone (four ∷ two ∷ two ∷ ten ∷ []) ≡ state (Ok tt) (two ∷ one ∷ three ∷ [])
  ended : alone (one ∷ two ∷ two ∷ four ∷ []) ≡ state (Err (failed 1 (of_bits binary32 0))) (one ∷ two ∷ four ∷ [])
  unknown : alone (four ∷ two ∷ two ∷ nan ∷ []) ≡ state (Err (failed 1 nan)) (two ∷ one ∷ nan ∷ [])
  both : matrix_of 2 (at (0 ∷ 2 ∷ 4 ∷ [])) (at (0 ∷ 1 ∷ 0 ∷ 1 ∷ [])) pair_blocks (at (1 ∷ 0 ∷ [])) (at (0 ∷ 0 ∷ 0 ∷ 0 ∷ [])) (at (0 ∷ 1 ∷ 3 ∷ 6 ∷ 10 ∷ []))
      ≡ state (Ok tt) (two ∷ one ∷ three ∷ one ∷ two ∷ one ∷ two ∷ one ∷ one ∷ two ∷ [])

readings : Readings
unfolding alone pair_blocks matrix_of load_of row_into slots_into slot_into beside_of corner_of factor_of row_step row_of close_of pivot_of square_step left_of
    entry_step entry_of reduced_of dot_run later sqrt_of over fold of_bits add sub mul div lt
readings = record { done = refl; ended = refl; unknown = refl; both = refl }
