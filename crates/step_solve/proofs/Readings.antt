-- Readings of the step solve, computed: one particle, whose factor 2, 1, 3 is that of (4, 2), (2,
-- 10); lists with a place too many and NaN in all that may be written. Assumes nothing.
use Prim.Native.Nat.{ℕ}
use mathlib.Core.Path.{◌≡◌, refl, ap}
use mathlib.Core.Bool.{Bool, true, false}
use mathlib.Core.List.{List, [], ◌∷◌}
use lib.Ieee.{Float, nan, binary32, of_bits, add, sub, mul, div, neg, lt, le, eq, ne}
use Rattle.std.specs.Prelude.{Ok, Err}
use Rattle.law.specs.declared.refusal.Refusal.{Refusal}
use Rattle.law.specs.declared.refusal.Refusal.TheVariants.{TooManyParticles, ShortBuffer, BadPlan, BadSettings}
use Rattle.law.specs.Loop.{fold, over}
use Rattle.law.specs.Every.{every, some}
use Rattle.law.specs.Gather.{gather}
use Rattle.law.specs.Room.{enough}
use Rattle.law.specs.Refusal.{verdict, when}
use Rattle.law.specs.Promise.{outcome}
use Rattle.law.specs.Said.{Said, refused, carries}
use Rattle.plane.specs.Plane.{zero32, one32}
use Rattle.vectors.specs.Whole.{dot_all}
use Rattle.matrix_shape.specs.Formed.{slot_ok as columnOk, home_ok, row_ok as columnsOk, stored, mirrors_ok, starts_ok as offsetsOk, well_formed}
use Rattle.matrix_shape.specs.Given.{pattern_room, formed}
use Rattle.plan_fits.specs.Fits.{back_ok, undo_ok, twins_ok, firsts_ok, grow_ok, starts_ok, plan_rules_ok, slot_ok, row_ok, inside_ok, fits_ok}
use Rattle.matrix_shape.specs.Shape.{shape}
use Rattle.plan_fits.specs.Given.{plan_room, factor_length}
use Rattle.plan_fits.specs.Layout.{layout}
use Rattle.step_routes.specs.System.{system}
use Rattle.factor_passes.specs.Passes.{row_sum as solvedSum, forward_by, forward_step, forward_of, taken_of, back_step, backward_of}
use Rattle.factor_substitution.specs.Solve.{permuted, placed_of, solve_of}
use Rattle.matrix_values.specs.Product.{slot_step, row_sum, product_at}
use Rattle.gradient_definition.specs.declared.Outcome.TheVariants.{Zero, Near, Converged, Curvature, Limit}
use Rattle.gradient_definition.specs.Vectors.{product, preconditioned, advanced, retreated, redirected, lacking, scaled, zeros}
use Rattle.gradient_definition.specs.Solve.{turn, run, rescaled, finished, fresh_of, launched, started, solved}
use Rattle.factor_doors.specs.Solving as D
use Rattle.gradient_refusals.specs.Settings.{settings_ok}
use Rattle.gradient_doors.specs.Solving as G
use Rattle.step_solve.specs.declared.Stepped.TheVariants.{Direct, Iterated}
use Rattle.step_routes.specs.Dense.{swept, plan_held, step_held, structural, later}
use Rattle.step_solve.specs.Stepping.{In, Out, given, left, refusals, directly, iteratively, work, door}

abbrev two : Float
two = of_bits binary32 0x4000_0000

abbrev three : Float
three = of_bits binary32 0x4040_0000

abbrev four : Float
four = of_bits binary32 0x4080_0000

abbrev six : Float
six = of_bits binary32 0x40c0_0000

abbrev ten : Float
ten = of_bits binary32 0x4120_0000

abbrev twelve : Float
twelve = of_bits binary32 0x4140_0000

-- b's squared length
abbrev sum : Float
sum = of_bits binary32 0x4334_0000

abbrev minus_one : Float
minus_one = of_bits binary32 0xbf80_0000

-- a list that may be written, and the same with its needed part zero
abbrev junk : List Float
junk = nan ∷ nan ∷ nan ∷ []

abbrev none : List Float
none = zero32 ∷ zero32 ∷ nan ∷ []

-- the blocks, the plan's first list, row starts, the values, the mark, the tolerance, the limit
-- and max_dense_dofs are given; b = (6, 12), and the preconditioner is the identity
handed : List Float → List ℕ → List ℕ → List Float → Bool → Float → ℕ → ℕ → In
handed blocks one starts values mark tolerance limit dofs =
    given
    (system (shape 1 (0 ∷ 1 ∷ []) (0 ∷ []) (0 ∷ [])) blocks (layout one one (0 ∷ 0 ∷ []) starts) values mark (one32 ∷ zero32 ∷ zero32 ∷ one32 ∷ [])
    tolerance limit dofs)
    (six ∷ twelve ∷ []) junk junk junk junk junk junk

-- the system of the factor, with its plan
planned : Bool → Float → ℕ → ℕ → Out
planned mark tolerance limit dofs =
    outcome door (handed (four ∷ two ∷ two ∷ ten ∷ []) (0 ∷ []) (0 ∷ 1 ∷ 3 ∷ []) (two ∷ one32 ∷ three ∷ []) mark tolerance limit dofs)

-- refused, and nothing changed
no : Refusal → Out
no k = left (Err k) junk junk junk junk junk junk

record Readings : Type 0 where
  -- 2n is max_dense_dofs and the mark is set: by the factor, and the other route's work buffers are zero too
  direct : planned true zero32 0 2 ≡ left (Ok Direct) (one32 ∷ one32 ∷ nan ∷ []) none none none none none
  -- the same call without the mark iterates from zero, here with no turn allowed; and with the tolerance 1 zero is near enough
  unmarked : planned false zero32 0 2 ≡ left (Ok (Iterated (Limit 0 sum))) none none none none none none
  near : planned false one32 9 2 ≡ left (Ok (Iterated (Near 0 sum))) none none none none none none
  -- 2n is above max_dense_dofs: it iterates whatever the mark, and leaves the scratch
  above : planned true zero32 0 1 ≡ left (Ok (Iterated (Limit 0 sum))) none junk none none none none
  above_unmarked : planned false zero32 0 1 ≡ left (Ok (Iterated (Limit 0 sum))) none junk none none none none
  -- and needs neither plan nor factor; the identity is solved in one turn
  planless : outcome door (handed (one32 ∷ zero32 ∷ zero32 ∷ one32 ∷ []) [] [] [] true zero32 1 1) ≡ left (Ok (Iterated (Converged 1 zero32)))
      (six ∷ twelve ∷ nan ∷ []) junk none none none none
  -- minus the identity bends at once; and no particles are Zero
  bent : outcome door (handed (minus_one ∷ zero32 ∷ zero32 ∷ minus_one ∷ []) [] [] [] true zero32 1 1)
      ≡ left (Ok (Iterated (Curvature 0 sum (of_bits binary32 0xc334_0000)))) none junk none none none none
  nobody : outcome door (given (system (shape 0 (0 ∷ []) [] []) [] (layout [] [] [] (0 ∷ [])) [] false [] zero32 0 0) [] [] [] [] [] [] []) ≡ left (Ok (Iterated (Zero 0))) [] [] [] [] [] []
  -- which are needed, and must fit, where 2n isn't above it, whatever the mark
  plan_needed : outcome door (handed (one32 ∷ zero32 ∷ zero32 ∷ one32 ∷ []) [] [] [] false zero32 1 2) ≡ no ShortBuffer
  plan_unfit : outcome door (handed (one32 ∷ zero32 ∷ zero32 ∷ one32 ∷ []) (1 ∷ []) (0 ∷ 1 ∷ 3 ∷ []) (two ∷ one32 ∷ three ∷ []) false zero32 1 2) ≡ no BadPlan
  -- the settings are tested on the direct route too
  limit : planned true zero32 4097 2 ≡ no BadSettings
  tolerance : planned true nan 0 2 ≡ no BadSettings
  -- 1,025 particles, whatever the lists
  many : outcome door (given (system (shape 1025 [] [] []) [] (layout [] [] [] []) [] true [] nan 4097 2050) [] [] [] [] [] [] [])
      ≡ left (Err TooManyParticles) [] [] [] [] [] []

readings : Readings
unfolding handed planned no outcome refusals work directly iteratively later swept plan_held step_held structural when verdict enough D.work G.work
    G.solve_for G.vectors_room pattern_room plan_room factor_length formed well_formed offsetsOk columnsOk columnOk home_ok mirrors_ok stored fits_ok inside_ok
    row_ok slot_ok plan_rules_ok undo_ok back_ok firsts_ok twins_ok starts_ok grow_ok every some settings_ok solve_of placed_of permuted backward_of back_step
    taken_of forward_of forward_step forward_by solvedSum solved started launched fresh_of finished rescaled run turn product preconditioned advanced
    retreated redirected lacking scaled zeros product_at row_sum slot_step dot_all gather over fold of_bits add sub mul div neg lt le eq ne
readings = record {
  direct = refl;
  unmarked = refl;
  near = refl;
  above = refl;
  above_unmarked = refl;
  planless = refl;
  bent = refl;
  nobody = refl;
  plan_needed = refl;
  plan_unfit = refl;
  limit = refl;
  tolerance = refl;
  many = refl;
}

-- what they say: 0 for the factor's route, an outcome its number, its count and its floats, a refusal its number
record Says : Type 0 where
  direct : (planned true zero32 0 2).said ≡ carries 0 [] []
  zero : (outcome door (given (system (shape 0 (0 ∷ []) [] []) [] (layout [] [] [] (0 ∷ [])) [] false [] zero32 0 0) [] [] [] [] [] [] [])).said ≡ carries 1 (0 ∷ []) []
  near : (planned false one32 9 2).said ≡ carries 2 (0 ∷ []) (sum ∷ [])
  converged : (outcome door (handed (one32 ∷ zero32 ∷ zero32 ∷ one32 ∷ []) [] [] [] true zero32 1 1)).said ≡ carries 3 (1 ∷ []) (zero32 ∷ [])
  curvature : (outcome door (handed (minus_one ∷ zero32 ∷ zero32 ∷ minus_one ∷ []) [] [] [] true zero32 1 1)).said
      ≡ carries 4 (0 ∷ []) (sum ∷ of_bits binary32 0xc334_0000 ∷ [])
  limit : (planned false zero32 0 2).said ≡ carries 5 (0 ∷ []) (sum ∷ [])
  not_solved : (planned true nan 0 2).said ≡ refused 8

says : Says
unfolding no
says =
    let of : Out → Said = λ o. o.said in
    record {
      direct = ap of readings.direct;
      zero = ap of readings.nobody;
      near = ap of readings.near;
      converged = ap of readings.planless;
      curvature = ap of readings.bent;
      limit = ap of readings.unmarked;
      not_solved = ap of readings.tolerance;
    }
