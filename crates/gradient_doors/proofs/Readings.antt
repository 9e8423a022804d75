-- Readings of the doors, computed: one particle, lists with a place too many and 9.0 in all that may be written. Assumes nothing.
use Prim.Native.Nat.{ℕ}
use mathlib.Core.Path.{◌≡◌, refl}
use mathlib.Core.List.{List, [], ◌∷◌, map}
use lib.Ieee.{Float, binary32, of_bits, add, sub, mul, div, neg, lt, le, eq, ne}
use lib.ListN.{replicate}
use Rattle.std.specs.Prelude.{Ok, Err}
use Rattle.law.specs.Loop.{fold, over}
use Rattle.law.specs.Every.{every, some}
use Rattle.law.specs.Gather.{gather}
use Rattle.law.specs.declared.refusal.Refusal.{Refusal}
use Rattle.law.specs.declared.refusal.Refusal.TheVariants.{TooManyParticles, ShortBuffer, BadPattern, BadSettings}
use Rattle.law.specs.Room.{enough}
use Rattle.law.specs.Refusal.{verdict}
use Rattle.law.specs.Promise.{outcome}
use Rattle.vectors.specs.Whole.{dot_all}
use Rattle.matrix_shape.specs.Formed.{slot_ok, home_ok, row_ok, stored, mirrors_ok, starts_ok, well_formed}
use Rattle.matrix_shape.specs.Given.{pattern_room, formed}
use Rattle.matrix_shape.specs.Shape.{shape}
use Rattle.matrix_values.specs.Product.{slot_step, row_sum, product_at}
use Rattle.gradient_definition.specs.declared.Outcome.TheVariants.{Converged}
use Rattle.gradient_definition.specs.Vectors.{product, preconditioned, advanced, retreated, redirected, lacking, scaled, zeros}
use Rattle.gradient_definition.specs.Solve.{turn, run, rescaled, finished, fresh_of, launched, started, solved}
use Rattle.gradient_definition.specs.Inverse.{or_identity, inverse_at}
use Rattle.gradient_refusals.specs.Settings.{settings_ok}
use Rattle.gradient_doors.specs.Solving as solving
use Rattle.gradient_doors.specs.Updating as updating

floats : List ℕ → List Float
floats l = map (of_bits binary32) l

nines : ℕ → List Float
nines k = replicate k (of_bits binary32 0x41100000)

-- the identity, b = (3, 4), and the last place of work of a given length
handed : ℕ → ℕ → ℕ → ℕ → solving.In
handed tolerance limit slot room =
    solving.given (shape 1 (0 ∷ 1 ∷ []) (0 ∷ []) (slot ∷ [])) (floats (0x3f800000 ∷ 0 ∷ 0 ∷ 0x3f800000 ∷ [])) (floats (0x3f800000 ∷ 0 ∷ 0 ∷ 0x3f800000 ∷ []))
    (floats (0x40400000 ∷ 0x40800000 ∷ [])) (of_bits binary32 tolerance) limit (floats (0 ∷ 0 ∷ 0x41100000 ∷ [])) (nines 3) (nines 3) (nines 3) (nines room)

-- refused, and nothing changed
no : Refusal → ℕ → solving.Out
no k room = solving.left (Err k) (floats (0 ∷ 0 ∷ 0x41100000 ∷ [])) (nines 3) (nines 3) (nines 3) (nines room)

-- the run that converges in one turn
yes : solving.Out
yes =
    let none = floats (0 ∷ 0 ∷ 0x41100000 ∷ []) in
    solving.left (Ok (Converged 1 (of_bits binary32 0))) (floats (0x40400000 ∷ 0x40800000 ∷ 0x41100000 ∷ [])) none none none none

record Readings : Type 0 where
  -- the tolerances +0.0 and -0.0, and the last limit: the work buffers are zero, and every rest is as it was
  plain : outcome solving.door (handed 0 1 0 3) ≡ yes
  minus_zero : outcome solving.door (handed 0x80000000 1 0 3) ≡ yes
  last_limit : outcome solving.door (handed 0 4096 0 3) ≡ yes
  -- a limit too large; a tolerance of NaN, infinity, minus the smallest f32
  limit : outcome solving.door (handed 0 4097 0 3) ≡ no BadSettings 3
  nan : outcome solving.door (handed 0x7fc00000 1 0 3) ≡ no BadSettings 3
  infinite : outcome solving.door (handed 0x7f800000 1 0 3) ≡ no BadSettings 3
  below : outcome solving.door (handed 0x80000001 1 0 3) ≡ no BadSettings 3
  -- lowest number first: a diagonal slot that isn't, and a work buffer too short
  pattern : outcome solving.door (handed 0x7fc00000 1 1 3) ≡ no BadPattern 3
  short : outcome solving.door (handed 0x7fc00000 1 1 1) ≡ no ShortBuffer 1
  many : outcome solving.door (solving.given (shape 1025 [] [] []) [] [] [] (of_bits binary32 0) 4097 [] [] [] [] []) ≡ solving.left (Err TooManyParticles) [] [] [] [] []
  -- the inverse of (2, 0 | 0, 4) has zeros made by a product with a negative number
  inverse : outcome updating.door (updating.given (shape 1 (0 ∷ 1 ∷ []) (0 ∷ []) (0 ∷ [])) (floats (0x40000000 ∷ 0 ∷ 0 ∷ 0x40800000 ∷ [])) (nines 5))
      ≡ updating.left (Ok tt) (floats (0x3f000000 ∷ 0x80000000 ∷ 0x80000000 ∷ 0x3e800000 ∷ 0x41100000 ∷ []))
  ill : outcome updating.door (updating.given (shape 1 (0 ∷ 1 ∷ []) (1 ∷ []) (0 ∷ [])) (nines 4) (nines 5)) ≡ updating.left (Err BadPattern) (nines 5)

readings : Readings
unfolding floats nines handed no yes outcome solving.refusals solving.work solving.solve_for solving.vectors_room updating.refusals
    updating.inverses_room verdict enough pattern_room formed well_formed starts_ok row_ok slot_ok home_ok mirrors_ok stored every some settings_ok solved
    started launched fresh_of finished rescaled run turn product preconditioned advanced retreated redirected lacking scaled zeros or_identity inverse_at
    product_at row_sum slot_step dot_all gather over fold of_bits add sub mul div neg lt le eq ne
readings = record {
  plain = refl;
  minus_zero = refl;
  last_limit = refl;
  limit = refl;
  nan = refl;
  infinite = refl;
  below = refl;
  pattern = refl;
  short = refl;
  many = refl;
  inverse = refl;
  ill = refl;
}
