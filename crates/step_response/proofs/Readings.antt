-- Readings of the response, computed: one particle and the identity; lists with a place too many and NaN in all that may be written. Assumes nothing.
use Prim.Native.Nat.{ℕ}
use mathlib.Core.Path.{◌≡◌, refl, ap}
use mathlib.Core.Bool.{true, false}
use mathlib.Core.List.{List, [], ◌∷◌}
use lib.Ieee.{Float, nan, inf, binary32, of_bits, add, sub, mul, div, neg, lt, le, eq, ne}
use Rattle.std.specs.Prelude.{Ok, Err}
use Rattle.law.specs.declared.refusal.Refusal.{Refusal}
use Rattle.law.specs.declared.refusal.Refusal.TheVariants.{TooManyEntries, OutOfRange, BadSettings}
use Rattle.law.specs.Loop.{fold, over}
use Rattle.law.specs.Every.{every, some}
use Rattle.law.specs.Gather.{gather}
use Rattle.law.specs.Store.{written}
use Rattle.law.specs.Room.{enough}
use Rattle.law.specs.Refusal.{verdict, when}
use Rattle.law.specs.Promise.{outcome}
use Rattle.law.specs.Said.{Said, refused, carries}
use Rattle.plane.specs.Plane.{zero32, one32}
use Rattle.vectors.specs.Whole.{dot_all}
use Rattle.matrix_shape.specs.Formed.{slot_ok as columnOk, home_ok, row_ok as columnsOk, stored, mirrors_ok, starts_ok as offsetsOk, well_formed}
use Rattle.matrix_shape.specs.Given.{pattern_room, formed}
use Rattle.plan_fits.specs.Fits.{back_ok, undo_ok, twins_ok, firsts_ok, grow_ok, starts_ok, plan_rules_ok, slot_ok, row_ok, inside_ok, fits_ok}
use Rattle.matrix_shape.specs.Shape.{shape}
use Rattle.plan_fits.specs.Given.{plan_room, factor_length}
use Rattle.plan_fits.specs.Layout.{layout}
use Rattle.step_routes.specs.System.{system}
use Rattle.step_entries.specs.Lent.{entered}
use Rattle.factor_passes.specs.Passes.{row_sum as solvedSum, forward_by, forward_step, forward_of, taken_of, back_step, backward_of}
use Rattle.factor_substitution.specs.Solve.{permuted, placed_of, solve_of}
use Rattle.matrix_values.specs.Product.{slot_step, row_sum, product_at}
use Rattle.gradient_definition.specs.declared.Outcome.TheVariants.{Zero, Near, Converged, Curvature, Limit}
use Rattle.gradient_definition.specs.Vectors.{product, preconditioned, advanced, retreated, redirected, lacking, scaled, zeros}
use Rattle.gradient_definition.specs.Solve.{turn, run, rescaled, finished, fresh_of, launched, started, solved}
use Rattle.factor_doors.specs.Solving as D
use Rattle.gradient_refusals.specs.Settings.{settings_ok}
use Rattle.gradient_doors.specs.Solving as G
use Rattle.step_routes.specs.Dense.{swept, plan_held, step_held, structural, later}
use Rattle.step_solve.specs.Stepping as S
use Rattle.step_response.specs.declared.Responded.TheVariants.{Nothing, Direct, Iterated}
use Rattle.step_entries.specs.Entries.{entries_room, below, free, any_free, load_step, loaded, gain_step, raw_gain, gain_of}
use Rattle.step_response.specs.Responding.{Out, given, left, refusals, idle, rhs_of, answered, work, door}

abbrev two : Float
two = of_bits binary32 0x4000_0000

abbrev three : Float
three = of_bits binary32 0x4040_0000

abbrev four : Float
four = of_bits binary32 0x4080_0000

abbrev twentyfive : Float
twentyfive = of_bits binary32 0x41c8_0000

abbrev minus_twentyfive : Float
minus_twentyfive = of_bits binary32 0xc1c8_0000

abbrev minus_one : Float
minus_one = of_bits binary32 0xbf80_0000

-- 2 to the 24th, where the f32 are 2 apart, and minus it
abbrev huge : Float
huge = of_bits binary32 0x4b80_0000

abbrev minus_huge : Float
minus_huge = of_bits binary32 0xcb80_0000

-- a list that may be written, and the same with its needed part zero
abbrev junk : List Float
junk = nan ∷ nan ∷ nan ∷ []

abbrev none : List Float
none = zero32 ∷ zero32 ∷ nan ∷ []

abbrev eye : List Float
eye = one32 ∷ zero32 ∷ zero32 ∷ one32 ∷ []

abbrev anti : List Float
anti = minus_one ∷ zero32 ∷ zero32 ∷ minus_one ∷ []

-- the block, the limit, the tolerance, max_dense_dofs, the pinned mark and the entries are given; the mark of the factor is set
asked : List Float → ℕ → Float → ℕ → ℕ → ℕ → List ℕ → List Float → Out
asked block limit tolerance dofs pinned count particles gradients =
    outcome door (given
    (system (shape 1 (0 ∷ 1 ∷ []) (0 ∷ []) (0 ∷ [])) block (layout (0 ∷ []) (0 ∷ []) (0 ∷ 0 ∷ []) (0 ∷ 1 ∷ 3 ∷ [])) (one32 ∷ zero32 ∷ one32 ∷ []) true eye
    tolerance limit dofs)
    (pinned ∷ []) (entered count particles gradients) junk junk junk junk junk junk junk)

-- the identity, with one turn
handed : Float → ℕ → ℕ → ℕ → List ℕ → List Float → Out
handed = asked eye 1

-- answered by the factor, with this gain and this solution
solves : Float → Float → Float → Out
solves gain x y = left (Ok (Direct gain)) (x ∷ y ∷ nan ∷ []) none none none none none none

-- refused, and nothing changed
no : Refusal → Out
no k = left (Err k) junk junk junk junk junk junk junk

record Readings : Type 0 where
  -- one entry; two on one particle add up, and each counts in the gain: 1 * 3 + 2 * 3 + 4 * 4
  one : handed zero32 2 0 1 (0 ∷ []) (three ∷ four ∷ []) ≡ solves twentyfive three four
  two_add_up : handed zero32 2 0 2 (0 ∷ 0 ∷ []) (one32 ∷ zero32 ∷ two ∷ four ∷ []) ≡ solves twentyfive three four
  -- above max_dense_dofs by iteration, which leaves the scratch
  iterated : handed zero32 1 0 2 (0 ∷ 0 ∷ []) (one32 ∷ zero32 ∷ two ∷ four ∷ [])
      ≡ left (Ok (Iterated twentyfive (Converged 1 zero32))) (three ∷ four ∷ nan ∷ []) none junk none none none none
  -- the other ways of ending, each from x = 0, whose gain is +0.0: a right-hand side of zeros, near enough, bent by minus the identity, no turn
  nought : handed zero32 1 0 1 (0 ∷ []) (zero32 ∷ zero32 ∷ []) ≡ left (Ok (Iterated zero32 (Zero 0))) none none junk none none none none
  near : handed one32 1 0 1 (0 ∷ []) (three ∷ four ∷ []) ≡ left (Ok (Iterated zero32 (Near 0 twentyfive))) none none junk none none none none
  bent : asked anti 1 zero32 1 0 1 (0 ∷ []) (three ∷ four ∷ [])
      ≡ left (Ok (Iterated zero32 (Curvature 0 twentyfive minus_twentyfive))) none none junk none none none none
  no_turn : asked eye 0 zero32 1 0 1 (0 ∷ []) (three ∷ four ∷ []) ≡ left (Ok (Iterated zero32 (Limit 0 twentyfive))) none none junk none none none none
  -- every entry is pinned, by any mark but 0; or there is none: zeros, and nothing is asked for
  pinned : handed zero32 2 7 2 (0 ∷ 0 ∷ []) (one32 ∷ zero32 ∷ two ∷ four ∷ []) ≡ left (Ok Nothing) none none none none none none none
  no_entries : handed zero32 2 0 0 [] [] ≡ left (Ok Nothing) none none none none none none none
  -- a gain of NaN is +0.0
  nan_gain : handed zero32 2 0 1 (0 ∷ []) (nan ∷ zero32 ∷ []) ≡ solves zero32 nan nan
  -- a gain below zero is +0.0: rounding makes the right-hand side 3, and the gain's sum 3 *
  -- -(2^24 + 1 + 1 + 1) + 3 * 2^24 + 9 is -3, since there the f32 are 4 apart
  gain_below : handed zero32 2 0 6 (0 ∷ 0 ∷ 0 ∷ 0 ∷ 0 ∷ 0 ∷ []) (minus_huge ∷ zero32 ∷ minus_one ∷ zero32 ∷ minus_one ∷ zero32 ∷ minus_one ∷ zero32
      ∷ huge ∷ zero32 ∷ three ∷ zero32 ∷ [])
      ≡ solves zero32 three zero32
  raw_below : raw_gain (0 ∷ []) 6 (0 ∷ 0 ∷ 0 ∷ 0 ∷ 0 ∷ 0 ∷ []) (minus_huge ∷ zero32 ∷ minus_one ∷ zero32 ∷ minus_one ∷ zero32 ∷ minus_one ∷ zero32
      ∷ huge ∷ zero32 ∷ three ∷ zero32 ∷ []) (three ∷ zero32 ∷ [])
      ≡ neg three
  -- by number: 17 entries, before the room for them; a particle at n, before the settings; the settings on either route
  two_refused : handed nan 2 0 17 [] [] ≡ no TooManyEntries
  four_refused : handed nan 2 0 2 (0 ∷ 1 ∷ []) (one32 ∷ zero32 ∷ two ∷ four ∷ []) ≡ no OutOfRange
  eight_refused : handed nan 2 0 2 (0 ∷ 0 ∷ []) (one32 ∷ zero32 ∷ two ∷ four ∷ []) ≡ no BadSettings
  -- even where no entry is left
  eight_pinned : handed (inf false) 1 1 1 (0 ∷ []) (one32 ∷ zero32 ∷ []) ≡ no BadSettings

readings : Readings
unfolding asked handed solves no outcome refusals work answered idle rhs_of entries_room below free any_free load_step loaded gain_step raw_gain gain_of written
    S.work S.directly S.iteratively later swept plan_held step_held structural when verdict enough D.work G.work G.solve_for G.vectors_room pattern_room
    plan_room factor_length formed well_formed offsetsOk columnsOk columnOk home_ok mirrors_ok stored fits_ok inside_ok row_ok slot_ok plan_rules_ok undo_ok
    back_ok firsts_ok twins_ok starts_ok grow_ok every some settings_ok solve_of placed_of permuted backward_of back_step taken_of forward_of forward_step
    forward_by solvedSum solved started launched fresh_of finished rescaled run turn product preconditioned advanced retreated redirected lacking scaled
    zeros product_at row_sum slot_step dot_all gather over fold of_bits add sub mul div neg lt le eq ne
readings = record {
  one = refl;
  two_add_up = refl;
  iterated = refl;
  nought = refl;
  near = refl;
  bent = refl;
  no_turn = refl;
  pinned = refl;
  no_entries = refl;
  nan_gain = refl;
  gain_below = refl;
  raw_below = refl;
  two_refused = refl;
  four_refused = refl;
  eight_refused = refl;
  eight_pinned = refl;
}

-- what they say: 0 for the factor's route, an outcome its number and its count, 6 where nothing was
-- asked for; the gain, and then the outcome's floats. A refusal says its number
record Says : Type 0 where
  direct : (handed zero32 2 0 1 (0 ∷ []) (three ∷ four ∷ [])).said ≡ carries 0 [] (twentyfive ∷ [])
  zero : (handed zero32 1 0 1 (0 ∷ []) (zero32 ∷ zero32 ∷ [])).said ≡ carries 1 (0 ∷ []) (zero32 ∷ [])
  near : (handed one32 1 0 1 (0 ∷ []) (three ∷ four ∷ [])).said ≡ carries 2 (0 ∷ []) (zero32 ∷ twentyfive ∷ [])
  converged : (handed zero32 1 0 2 (0 ∷ 0 ∷ []) (one32 ∷ zero32 ∷ two ∷ four ∷ [])).said ≡ carries 3 (1 ∷ []) (twentyfive ∷ zero32 ∷ [])
  curvature : (asked anti 1 zero32 1 0 1 (0 ∷ []) (three ∷ four ∷ [])).said ≡ carries 4 (0 ∷ []) (zero32 ∷ twentyfive ∷ minus_twentyfive ∷ [])
  limit : (asked eye 0 zero32 1 0 1 (0 ∷ []) (three ∷ four ∷ [])).said ≡ carries 5 (0 ∷ []) (zero32 ∷ twentyfive ∷ [])
  nothing : (handed zero32 2 0 0 [] []).said ≡ carries 6 [] (zero32 ∷ [])
  not_answered : (handed nan 2 0 17 [] []).said ≡ refused 2

says : Says
unfolding solves no
says =
    let of : Out → Said = λ o. o.said in
    record {
      direct = ap of readings.one;
      zero = ap of readings.nought;
      near = ap of readings.near;
      converged = ap of readings.iterated;
      curvature = ap of readings.bent;
      limit = ap of readings.no_turn;
      nothing = ap of readings.no_entries;
      not_answered = ap of readings.two_refused;
    }
