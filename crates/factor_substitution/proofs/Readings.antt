-- The direct solve's reading (RULES.md § 11), computed: the factor 2, 1, 3 takes b = (6, 12) to (1, 1). Assumes nothing.
use mathlib.Core.Path.{◌≡◌, refl}
use mathlib.Core.List.{[], ◌∷◌}
use lib.Ieee.{Float, binary32, of_bits, add, sub, mul, div}
use Rattle.law.specs.Loop.{fold, over}
use Rattle.law.specs.Gather.{gather}
use Rattle.matrix_shape.specs.Rows.{at}
use Rattle.plane.specs.Plane.{zero32, one32}
use Rattle.factor_passes.specs.Passes.{row_sum, forward_by, forward_step, forward_of, taken_of, back_step, backward_of}
use Rattle.factor_substitution.specs.Solve.{permuted, placed_of, solve_of, left, solved_of}

abbrev two : Float
two = of_bits binary32 0x4000_0000

abbrev three : Float
three = of_bits binary32 0x4040_0000

abbrev six : Float
six = of_bits binary32 0x40c0_0000

abbrev twelve : Float
twelve = of_bits binary32 0x4140_0000

record Readings : Type 0 where
  one_block : solved_of 1 (at (0 ∷ [])) (at (0 ∷ [])) (at (0 ∷ 0 ∷ [])) (at (0 ∷ 1 ∷ 3 ∷ [])) (two ∷ one32 ∷ three ∷ []) (six ∷ twelve ∷ []) ≡ left
      (one32 ∷ one32 ∷ []) (zero32 ∷ zero32 ∷ [])
  -- two particles in the order 1 0, with no entry between them: each keeps its own part of b
  two_blocks : solve_of 2 (at (1 ∷ 0 ∷ [])) (at (1 ∷ 0 ∷ [])) (at (0 ∷ 0 ∷ 2 ∷ 2 ∷ [])) (at (0 ∷ 1 ∷ 3 ∷ 4 ∷ 6 ∷ [])) (two ∷ one32 ∷ three ∷ one32
      ∷ zero32 ∷ one32 ∷ []) (three ∷ two ∷ six ∷ twelve ∷ [])
      ≡ three ∷ two ∷ one32 ∷ one32 ∷ []

readings : Readings
unfolding solved_of solve_of placed_of permuted backward_of back_step taken_of forward_of forward_step forward_by row_sum gather over fold of_bits add sub mul div
readings = record { one_block = refl; two_blocks = refl }
