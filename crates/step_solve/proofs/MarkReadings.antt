-- Readings of `factorize_step_matrix`, computed: one particle, with a place too many in
-- the values and in the preconditioner, and NaN in both. Assumes nothing.
use Prim.Native.Nat.{ℕ}
use mathlib.Core.Path.{◌≡◌, refl, ap}
use mathlib.Core.List.{List, [], ◌∷◌}
use lib.Ieee.{Float, nan, binary32, of_bits, add, sub, mul, div, neg, lt}
use Rattle.std.specs.Prelude.{Ok, Err}
use Rattle.law.specs.declared.refusal.Refusal.TheVariants.{ShortBuffer, BadPlan}
use Rattle.law.specs.Loop.{fold, over}
use Rattle.law.specs.Every.{every, some}
use Rattle.law.specs.Gather.{gather}
use Rattle.law.specs.Room.{enough}
use Rattle.law.specs.Refusal.{verdict, when}
use Rattle.law.specs.Promise.{outcome}
use Rattle.law.specs.Said.{Said, refused, carries}
use Rattle.root.specs.Sqrt.{sqrt_of}
use Rattle.plane.specs.Plane.{zero32, one32}
use Rattle.flat_runs.specs.Run.{dot_run}
use Rattle.matrix_shape.specs.Formed.{slot_ok as columnOk, home_ok, row_ok as columnsOk, stored, mirrors_ok, starts_ok as offsetsOk, well_formed}
use Rattle.matrix_shape.specs.Given.{pattern_room, formed}
use Rattle.plan_fits.specs.Fits.{back_ok, undo_ok, twins_ok, firsts_ok, grow_ok, starts_ok, plan_rules_ok, slot_ok, row_ok, inside_ok, fits_ok}
use Rattle.matrix_shape.specs.Shape.{shape}
use Rattle.plan_fits.specs.Given.{plan_room, factor_length}
use Rattle.plan_fits.specs.Layout.{layout}
use Rattle.factor_load.specs.Load.{beside_of, corner_of, slot_into, slots_into, row_into, load_of}
use Rattle.factor_row.specs.Row.{later, reduced_of, entry_of, entry_step, left_of, square_step, pivot_of}
use Rattle.factor_make.specs.Factor.{close_of, row_of, row_step, factor_of}
use Rattle.factor_make.specs.Matrix.{matrix_of}
use Rattle.gradient_definition.specs.Inverse.{or_identity, inverse_at}
use Rattle.factor_doors.specs.Factorizing as F
use Rattle.gradient_doors.specs.Updating as U
use Rattle.step_solve.specs.declared.Marked.TheVariants.{Direct, Failed, Iterative}
use Rattle.step_routes.specs.Dense.{plan_held, structural}
use Rattle.step_solve.specs.Marking.{Out, given, left, refusals, renewed, work, door}

abbrev two : Float
two = of_bits binary32 0x4000_0000

abbrev three : Float
three = of_bits binary32 0x4040_0000

abbrev four : Float
four = of_bits binary32 0x4080_0000

abbrev ten : Float
ten = of_bits binary32 0x4120_0000

abbrev half : Float
half = of_bits binary32 0x3f00_0000

abbrev quarter : Float
quarter = of_bits binary32 0x3e80_0000

abbrev minus0 : Float
minus0 = of_bits binary32 0x8000_0000

-- the values and the preconditioner as they are lent
abbrev values : List Float
values = nan ∷ nan ∷ nan ∷ ten ∷ []

abbrev inverses : List Float
inverses = nan ∷ nan ∷ nan ∷ nan ∷ ten ∷ []

-- the blocks, the plan's order and inverse, its row starts and max_dense_dofs are given
handed : List Float → List ℕ → List ℕ → ℕ → List Float → Out
handed blocks one starts dofs room = outcome door (given (shape 1 (0 ∷ 1 ∷ []) (0 ∷ []) (0 ∷ [])) blocks (layout one one (0 ∷ 0 ∷ []) starts) dofs room inverses)

record Readings : Type 0 where
  -- a whole factor leaves the preconditioner
  whole : handed (four ∷ two ∷ two ∷ ten ∷ []) (0 ∷ []) (0 ∷ 1 ∷ 3 ∷ []) 2 values ≡ left (Ok Direct) (two ∷ one32 ∷ three ∷ ten ∷ []) inverses
  -- (1, 2), (2, 4) fails at row 1 with the pivot 0; having no inverse, it gives the preconditioner the identity
  failed : handed (one32 ∷ two ∷ two ∷ four ∷ []) (0 ∷ []) (0 ∷ 1 ∷ 3 ∷ []) 2 values ≡ left (Ok (Failed 1 zero32)) (one32 ∷ two ∷ four ∷ ten ∷ [])
      (one32 ∷ zero32 ∷ zero32 ∷ one32 ∷ ten ∷ [])
  -- 2n is above max_dense_dofs: the inverse, and the values stay; neither plan nor values are needed
  above : handed (two ∷ zero32 ∷ zero32 ∷ four ∷ []) (0 ∷ []) (0 ∷ 1 ∷ 3 ∷ []) 1 values ≡ left (Ok Iterative) values (half ∷ minus0 ∷ minus0 ∷ quarter ∷ ten ∷ [])
  planless : handed (two ∷ zero32 ∷ zero32 ∷ four ∷ []) [] [] 1 [] ≡ left (Ok Iterative) [] (half ∷ minus0 ∷ minus0 ∷ quarter ∷ ten ∷ [])
  -- which are needed, and must fit, where it isn't
  plan_needed : handed (two ∷ zero32 ∷ zero32 ∷ four ∷ []) [] [] 2 values ≡ left (Err ShortBuffer) values inverses
  plan_unfit : handed (two ∷ zero32 ∷ zero32 ∷ four ∷ []) (1 ∷ []) (0 ∷ 1 ∷ 3 ∷ []) 2 values ≡ left (Err BadPlan) values inverses
  -- three floats are no block
  short : handed (two ∷ zero32 ∷ zero32 ∷ []) (0 ∷ []) (0 ∷ 1 ∷ 3 ∷ []) 1 values ≡ left (Err ShortBuffer) values inverses

readings : Readings
unfolding handed outcome refusals work renewed plan_held structural when verdict enough F.work F.state_of U.inverses_room pattern_room plan_room
    factor_length formed well_formed offsetsOk columnsOk columnOk home_ok mirrors_ok stored fits_ok inside_ok row_ok slot_ok plan_rules_ok undo_ok back_ok
    firsts_ok twins_ok starts_ok grow_ok every some matrix_of load_of row_into slots_into slot_into beside_of corner_of factor_of row_step row_of close_of pivot_of
    square_step left_of entry_step entry_of reduced_of dot_run later or_identity inverse_at gather over fold sqrt_of of_bits add sub mul div neg lt
readings = record { whole = refl; failed = refl; above = refl; planless = refl; plan_needed = refl; plan_unfit = refl; short = refl }

-- what they say: 0 for a whole factor, 1 for a failure with its row and pivot, 2 for the iterative route, a refusal its number
record Says : Type 0 where
  whole : (handed (four ∷ two ∷ two ∷ ten ∷ []) (0 ∷ []) (0 ∷ 1 ∷ 3 ∷ []) 2 values).said ≡ carries 0 [] []
  failed : (handed (one32 ∷ two ∷ two ∷ four ∷ []) (0 ∷ []) (0 ∷ 1 ∷ 3 ∷ []) 2 values).said ≡ carries 1 (1 ∷ []) (zero32 ∷ [])
  planless : (handed (two ∷ zero32 ∷ zero32 ∷ four ∷ []) [] [] 1 []).said ≡ carries 2 [] []
  plan_unfit : (handed (two ∷ zero32 ∷ zero32 ∷ four ∷ []) (1 ∷ []) (0 ∷ 1 ∷ 3 ∷ []) 2 values).said ≡ refused 6

says : Says
says =
    let of : Out → Said = λ o. o.said in
    record {
      whole = ap of readings.whole;
      failed = ap of readings.failed;
      planless = ap of readings.planless;
      plan_unfit = ap of readings.plan_unfit;
    }
