-- Readings of the doors, computed: what each answers and leaves, rests included. Assumes nothing.
use Prim.Native.Nat.{ℕ}
use mathlib.Core.Path.{◌≡◌, refl, ap}
use mathlib.Core.List.{List, [], ◌∷◌}
use lib.Ieee.{Float, nan, binary32, of_bits, add, sub, mul, div}
use Rattle.law.specs.Loop.{fold, over}
use Rattle.law.specs.Every.{every}
use Rattle.law.specs.Gather.{gather}
use Rattle.law.specs.Room.{enough}
use Rattle.law.specs.Refusal.{verdict}
use Rattle.law.specs.Promise.{outcome}
use Rattle.law.specs.Said.{Said, refused, carries}
use Rattle.plane.specs.Plane.{zero32, one32}
use Rattle.plan_fits.specs.Fits.{back_ok, undo_ok, twins_ok, firsts_ok, grow_ok, starts_ok, plan_rules_ok}
use Rattle.plan_fits.specs.Given.{plan_room, factor_length}
use Rattle.factor_passes.specs.Passes.{row_sum, forward_by, forward_step, forward_of, taken_of, back_step, backward_of}
use Rattle.factor_substitution.specs.Solve.{permuted, placed_of, solve_of}
use Rattle.std.specs.Prelude.{Ok, Err}
use Rattle.law.specs.declared.refusal.Refusal.TheVariants.{TooManyParticles, ShortBuffer, BadPlan}
use Rattle.plan_fits.specs.Layout.{layout}
use Rattle.factor_doors.specs.Solving.{In, Out, given, left, values_room, refusals, work, door}

abbrev two : Float
two = of_bits binary32 0x4000_0000

abbrev three : Float
three = of_bits binary32 0x4040_0000

abbrev six : Float
six = of_bits binary32 0x40c0_0000

abbrev twelve : Float
twelve = of_bits binary32 0x4140_0000

-- one particle's plan, the factor 2, 1, 3 and b = (6, 12), with x and scratch of a place more than is needed; the inverse and the values are given
handed : List ℕ → List Float → In
handed inverse values = given 1 (layout (0 ∷ []) inverse (0 ∷ 0 ∷ []) (0 ∷ 1 ∷ 3 ∷ [])) values (six ∷ twelve ∷ []) (nan ∷ nan ∷ six ∷ []) (nan ∷ nan ∷ nan ∷ [])

record Readings : Type 0 where
  solved : outcome door (handed (0 ∷ []) (two ∷ one32 ∷ three ∷ [])) ≡ left (Ok tt) (one32 ∷ one32 ∷ six ∷ []) (zero32 ∷ zero32 ∷ nan ∷ [])
  -- a factor one short, and an inverse that leads past the particles
  short : outcome door (handed (0 ∷ []) (two ∷ one32 ∷ [])) ≡ left (Err ShortBuffer) (nan ∷ nan ∷ six ∷ []) (nan ∷ nan ∷ nan ∷ [])
  astray : outcome door (handed (1 ∷ []) (two ∷ one32 ∷ three ∷ [])) ≡ left (Err BadPlan) (nan ∷ nan ∷ six ∷ []) (nan ∷ nan ∷ nan ∷ [])
  -- 1,025 particles, whatever the lists
  many : outcome door (given 1025 (layout [] [] [] []) [] [] [] []) ≡ left (Err TooManyParticles) [] []
  -- no particles
  none : outcome door (given 0 (layout [] [] [] (0 ∷ [])) [] [] [] []) ≡ left (Ok tt) [] []

readings : Readings
unfolding handed outcome refusals work verdict enough values_room plan_room factor_length plan_rules_ok undo_ok back_ok firsts_ok twins_ok starts_ok grow_ok
    every over fold solve_of placed_of permuted backward_of back_step taken_of forward_of forward_step forward_by row_sum gather of_bits add sub mul div
readings = record { solved = refl; short = refl; astray = refl; many = refl; none = refl }

-- what they say: 0 for a solve, a refusal its number
record Says : Type 0 where
  solved : (outcome door (handed (0 ∷ []) (two ∷ one32 ∷ three ∷ []))).said ≡ carries 0 [] []
  astray : (outcome door (handed (1 ∷ []) (two ∷ one32 ∷ three ∷ []))).said ≡ refused 6

says : Says
says =
    let of : Out → Said = λ o. o.said in
    record { solved = ap of readings.solved; astray = ap of readings.astray }
