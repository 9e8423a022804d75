-- What the doors' answers say, computed through their outcomes: each kind of each answer, of one particle whose block is the preconditioner
-- too, from x = 0. An outcome says its number, its count, and its floats, the residual's before the denominator. Assumes nothing.
use Prim.Native.Nat.{ℕ}
use mathlib.Core.Path.{◌≡◌, refl}
use mathlib.Core.List.{List, [], ◌∷◌, map}
use lib.Ieee.{Float, binary32, of_bits, add, sub, mul, div, neg, lt, le, eq, ne}
use Rattle.law.specs.Loop.{fold, over}
use Rattle.law.specs.Every.{every, some}
use Rattle.law.specs.Gather.{gather}
use Rattle.law.specs.Room.{enough}
use Rattle.law.specs.Refusal.{verdict}
use Rattle.law.specs.Promise.{outcome}
use Rattle.law.specs.Said.{Said, refused, carries}
use Rattle.vectors.specs.Whole.{dot_all}
use Rattle.matrix_shape.specs.Formed.{slot_ok, home_ok, row_ok, stored, mirrors_ok, starts_ok, well_formed}
use Rattle.matrix_shape.specs.Given.{pattern_room, formed}
use Rattle.matrix_shape.specs.Shape.{shape}
use Rattle.matrix_values.specs.Product.{slot_step, row_sum, product_at}
use Rattle.gradient_definition.specs.Vectors.{product, preconditioned, advanced, retreated, redirected, lacking, scaled, zeros}
use Rattle.gradient_definition.specs.Solve.{turn, run, rescaled, finished, fresh_of, launched, started, solved}
use Rattle.gradient_refusals.specs.Settings.{settings_ok}
use Rattle.gradient_doors.specs.Solving as solving
use Rattle.gradient_doors.specs.Updating as updating

floats : List ℕ → List Float
floats l = map (of_bits binary32) l

-- the identity and minus it; b = (3, 4)
abbrev eye : List ℕ
eye = 0x3f800000 ∷ 0 ∷ 0 ∷ 0x3f800000 ∷ []

abbrev anti : List ℕ
anti = 0xbf800000 ∷ 0 ∷ 0 ∷ 0xbf800000 ∷ []

abbrev b34 : List ℕ
b34 = 0x40400000 ∷ 0x40800000 ∷ []

-- the block, b, the tolerance and the limit are given
ran : List ℕ → List ℕ → ℕ → ℕ → Said
ran block b tolerance limit =
    let m = floats block in
    let v = floats (0 ∷ 0 ∷ []) in
    (outcome solving.door (solving.given (shape 1 (0 ∷ 1 ∷ []) (0 ∷ []) (0 ∷ [])) m m (floats b) (of_bits binary32 tolerance) limit v v v v v)).said

-- the column is given
updated : ℕ → Said
updated col = (outcome updating.door (updating.given (shape 1 (0 ∷ 1 ∷ []) (col ∷ []) (0 ∷ [])) (floats eye) (floats eye))).said

record Readings : Type 0 where
  zero : ran eye (0 ∷ 0 ∷ []) 0 1 ≡ carries 1 (0 ∷ []) []
  near : ran eye b34 0x3f800000 1 ≡ carries 2 (0 ∷ []) (floats (0x41c80000 ∷ []))
  converged : ran eye b34 0 1 ≡ carries 3 (1 ∷ []) (floats (0 ∷ []))
  curvature : ran anti b34 0 1 ≡ carries 4 (0 ∷ []) (floats (0x41c80000 ∷ 0xc1c80000 ∷ []))
  limit : ran eye b34 0 0 ≡ carries 5 (0 ∷ []) (floats (0x41c80000 ∷ []))
  not_run : ran eye b34 0 4097 ≡ refused 8
  renewed : updated 0 ≡ carries 0 [] []
  not_renewed : updated 1 ≡ refused 5

readings : Readings
unfolding floats ran updated outcome solving.refusals solving.work solving.solve_for solving.vectors_room updating.refusals updating.inverses_room
    verdict enough pattern_room formed well_formed starts_ok row_ok slot_ok home_ok mirrors_ok stored every some settings_ok solved started launched fresh_of
    finished rescaled run turn product preconditioned advanced retreated redirected lacking scaled zeros product_at row_sum slot_step dot_all gather over
    fold of_bits add sub mul div neg lt le eq ne
readings = record {
  zero = refl;
  near = refl;
  converged = refl;
  curvature = refl;
  limit = refl;
  not_run = refl;
  renewed = refl;
  not_renewed = refl;
}
