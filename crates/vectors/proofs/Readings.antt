-- A reading of the definitions, computed, as bit patterns. Assumes nothing.
use mathlib.Core.Path.{◌≡◌, refl}
use lib.Ieee.{binary32, of_bits, to_bits, add, mul}
use Rattle.law.specs.Loop.{over, fold}
use Rattle.plane.specs.Plane.{Vector, pair}
use Rattle.vectors.specs.Whole.{dot_all}

-- -0.0 and 1.0, twice each
less : Vector
less = pair (of_bits binary32 0x80000000) (of_bits binary32 0x80000000)

ones : Vector
ones = pair (of_bits binary32 0x3F800000) (of_bits binary32 0x3F800000)

-- one particle's product is -0.0; the sum over the particles starts at +0.0 and stays there
sum : to_bits binary32 (dot_all 1 less ones) ≡ 0
unfolding less ones dot_all over fold of_bits to_bits add mul
sum = refl
