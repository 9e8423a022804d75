-- Readings of the pass forwards, computed: the signs of zeros that the order of operations decides. Assumes nothing.
use mathlib.Core.Path.{◌≡◌, refl}
use mathlib.Core.List.{[], ◌∷◌}
use lib.Ieee.{Float, binary32, of_bits, add, sub, mul, div}
use Rattle.law.specs.Loop.{fold, over}
use Rattle.matrix_shape.specs.Rows.{at}
use Rattle.plane.specs.Plane.{one32}
use Rattle.factor_passes.specs.Passes.{row_sum, forward_by, forward_step, forward_of}

abbrev minus0 : Float
minus0 = of_bits binary32 0x8000_0000

record Readings : Type 0 where
  -- a row that is all diagonal keeps b's −0.0
  bare : forward_of (at (0 ∷ 1 ∷ [])) (λ i k. one32) 2 (minus0 ∷ minus0 ∷ []) ≡ minus0 ∷ minus0 ∷ []
  -- a sum that starts at +0.0 is +0.0 even where its one product is −0.0, and −0.0 − (+0.0) is −0.0
  summed : forward_of (at (0 ∷ 0 ∷ [])) (λ i k. one32) 2 (minus0 ∷ minus0 ∷ []) ≡ minus0 ∷ minus0 ∷ []

readings : Readings
unfolding forward_of forward_step forward_by row_sum over fold of_bits add sub mul div
readings = record { bare = refl; summed = refl }
