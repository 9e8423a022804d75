-- The factor's readings (RULES.md § 11) through its door, computed, with a place more in the
-- values than is needed; and refusals, which change nothing. Assumes nothing.
use Prim.Native.Nat.{ℕ}
use mathlib.Core.Path.{◌≡◌, refl, ap}
use mathlib.Core.List.{List, [], ◌∷◌}
use lib.Ieee.{Float, nan, binary32, of_bits, add, sub, mul, div, lt}
use Rattle.law.specs.Loop.{fold, over}
use Rattle.law.specs.Every.{every, some}
use Rattle.law.specs.Room.{enough}
use Rattle.law.specs.Refusal.{verdict}
use Rattle.law.specs.Promise.{outcome}
use Rattle.law.specs.Said.{Said, refused, carries}
use Rattle.root.specs.Sqrt.{sqrt_of}
use Rattle.plane.specs.Plane.{zero32, one32}
use Rattle.flat_runs.specs.Run.{dot_run}
use Rattle.matrix_shape.specs.Formed.{slot_ok as columnOk, home_ok, row_ok as columnsOk, stored, mirrors_ok, starts_ok as offsetsOk, well_formed}
use Rattle.matrix_shape.specs.Given.{pattern_room, formed}
use Rattle.plan_fits.specs.Fits.{back_ok, undo_ok, twins_ok, firsts_ok, grow_ok, starts_ok, plan_rules_ok, slot_ok, row_ok, inside_ok, fits_ok}
use Rattle.plan_fits.specs.Given.{plan_room, factor_length}
use Rattle.factor_load.specs.Load.{beside_of, corner_of, slot_into, slots_into, row_into, load_of}
use Rattle.factor_row.specs.Row.{later, reduced_of, entry_of, entry_step, left_of, square_step, pivot_of}
use Rattle.factor_make.specs.Factor.{close_of, row_of, row_step, factor_of}
use Rattle.factor_make.specs.Matrix.{matrix_of}
use Rattle.std.specs.Prelude.{Ok, Err}
use Rattle.law.specs.declared.refusal.Refusal.TheVariants.{ShortBuffer, BadPattern, BadPlan}
use Rattle.matrix_shape.specs.Shape.{shape}
use Rattle.plan_fits.specs.Layout.{layout}
use Rattle.factor_make.specs.Factored.{failed}
use Rattle.factor_doors.specs.Factorizing.{Out, given, left, values_room, refusals, state_of, work, door}

abbrev two : Float
two = of_bits binary32 0x4000_0000

abbrev three : Float
three = of_bits binary32 0x4040_0000

abbrev four : Float
four = of_bits binary32 0x4080_0000

abbrev ten : Float
ten = of_bits binary32 0x4120_0000

-- one particle, its column and first columns given
handed : List ℕ → List ℕ → List Float → Out
handed cols first blocks = outcome door (given (shape 1 (0 ∷ 1 ∷ []) cols (0 ∷ [])) blocks (layout (0 ∷ []) (0 ∷ []) first (0 ∷ 1 ∷ 3 ∷ [])) (nan ∷ nan ∷ nan ∷ ten ∷ []))

record Readings : Type 0 where
  done : handed (0 ∷ []) (0 ∷ 0 ∷ []) (four ∷ two ∷ two ∷ ten ∷ []) ≡ left (Ok (Ok tt)) (two ∷ one32 ∷ three ∷ ten ∷ [])
  ended : handed (0 ∷ []) (0 ∷ 0 ∷ []) (one32 ∷ two ∷ two ∷ four ∷ []) ≡ left (Ok (Err (failed 1 zero32))) (one32 ∷ two ∷ four ∷ ten ∷ [])
  -- three floats are no block; column 1 is none of one particle's; first columns that differ are none of a plan's, and 5 comes before 6
  short : handed (0 ∷ []) (0 ∷ 0 ∷ []) (four ∷ two ∷ two ∷ []) ≡ left (Err ShortBuffer) (nan ∷ nan ∷ nan ∷ ten ∷ [])
  unfit : handed (0 ∷ []) (0 ∷ 1 ∷ []) (four ∷ two ∷ two ∷ ten ∷ []) ≡ left (Err BadPlan) (nan ∷ nan ∷ nan ∷ ten ∷ [])
  both : handed (1 ∷ []) (0 ∷ 1 ∷ []) (four ∷ two ∷ two ∷ ten ∷ []) ≡ left (Err BadPattern) (nan ∷ nan ∷ nan ∷ ten ∷ [])

readings : Readings
unfolding handed outcome refusals work state_of verdict enough values_room pattern_room plan_room factor_length formed well_formed offsetsOk columnsOk
    columnOk home_ok mirrors_ok stored fits_ok inside_ok row_ok slot_ok plan_rules_ok undo_ok back_ok firsts_ok twins_ok starts_ok grow_ok every some over fold
    matrix_of load_of row_into slots_into slot_into beside_of corner_of factor_of row_step row_of close_of pivot_of square_step left_of entry_step entry_of reduced_of
    dot_run later sqrt_of of_bits add sub mul div lt
readings = record { done = refl; ended = refl; short = refl; unfit = refl; both = refl }

-- what they say: 0 for a whole factor, 1 for a failure with its row and pivot, a refusal its number
record Says : Type 0 where
  done : (handed (0 ∷ []) (0 ∷ 0 ∷ []) (four ∷ two ∷ two ∷ ten ∷ [])).said ≡ carries 0 [] []
  ended : (handed (0 ∷ []) (0 ∷ 0 ∷ []) (one32 ∷ two ∷ two ∷ four ∷ [])).said ≡ carries 1 (1 ∷ []) (zero32 ∷ [])
  unfit : (handed (0 ∷ []) (0 ∷ 1 ∷ []) (four ∷ two ∷ two ∷ ten ∷ [])).said ≡ refused 6

says : Says
says =
    let of : Out → Said = λ o. o.said in
    record { done = ap of readings.done; ended = ap of readings.ended; unfit = ap of readings.unfit }
