-- Readings of the tally, computed: one particle, a call of each kind from a fresh record, and calls that leave the record as it is. Assumes nothing.
use Prim.Native.Nat.{ℕ}
use mathlib.Core.Path.{◌≡◌, refl}
use mathlib.Core.Bool.{Bool, true, false}
use mathlib.Core.List.{List, [], ◌∷◌, map}
use lib.Ieee.{Float, binary32, of_bits, add, sub, mul, div, neg, lt, le, eq, ne}
use Rattle.law.specs.Loop.{fold, over}
use Rattle.law.specs.Every.{every, some}
use Rattle.law.specs.Gather.{gather}
use Rattle.law.specs.Store.{written}
use Rattle.law.specs.Room.{enough}
use Rattle.law.specs.Refusal.{verdict, when}
use Rattle.law.specs.Promise.{outcome}
use Rattle.vectors.specs.Whole.{dot_all}
use Rattle.matrix_shape.specs.Formed.{slot_ok as columnOk, home_ok, row_ok as columnsOk, stored, mirrors_ok, starts_ok as offsetsOk, well_formed}
use Rattle.matrix_shape.specs.Given.{pattern_room, formed}
use Rattle.plan_fits.specs.Fits.{back_ok, undo_ok, twins_ok, firsts_ok, grow_ok, starts_ok, plan_rules_ok, slot_ok, row_ok, inside_ok, fits_ok}
use Rattle.matrix_shape.specs.Shape.{shape}
use Rattle.plan_fits.specs.Given.{plan_room, factor_length}
use Rattle.plan_fits.specs.Layout.{layout}
use Rattle.step_routes.specs.System.{Sys, system}
use Rattle.step_entries.specs.Lent.{entered}
use Rattle.factor_passes.specs.Passes.{row_sum as solvedSum, forward_by, forward_step, forward_of, taken_of, back_step, backward_of}
use Rattle.factor_substitution.specs.Solve.{permuted, placed_of, solve_of}
use Rattle.matrix_values.specs.Product.{slot_step, row_sum, product_at}
use Rattle.gradient_definition.specs.Vectors.{product, preconditioned, advanced, retreated, redirected, lacking, scaled, zeros}
use Rattle.gradient_definition.specs.Solve.{turn, run, rescaled, finished, fresh_of, launched, started, solved}
use Rattle.factor_doors.specs.Solving as D
use Rattle.gradient_refusals.specs.Settings.{settings_ok}
use Rattle.gradient_doors.specs.Solving as G
use Rattle.step_routes.specs.Dense.{swept, plan_held, step_held, structural, later}
use Rattle.step_solve.specs.Stepping as S
use Rattle.step_entries.specs.Entries.{entries_room, below, free, any_free, load_step, loaded, gain_step, raw_gain, gain_of}
use Rattle.step_response.specs.Responding as R
use Rattle.step_tally.specs.declared.Tally.{Tally}
use Rattle.step_tally.specs.Runs.{fresh}
use Rattle.step_counts.specs.Counting.{after_step, after_response}

floats : List ℕ → List Float
floats l = map (of_bits binary32) l

-- the seven counts: direct, Zero, Near, Converged, Curvature, Limit, refused
counts : ℕ → ℕ → ℕ → ℕ → ℕ → ℕ → ℕ → Tally
counts direct none near converged curvature limit refused =
    record { direct = direct; zero = none; near = near; converged = converged; curvature = curvature; limit = limit; refused = refused }

-- one particle, whose block, mark of the factor, tolerance and limit are given; the preconditioner is the block
lent : List Float → Bool → ℕ → ℕ → Sys
lent m mark tolerance limit =
    system (shape 1 (0 ∷ 1 ∷ []) (0 ∷ []) (0 ∷ [])) m (layout (0 ∷ []) (0 ∷ []) (0 ∷ 0 ∷ []) (0 ∷ 1 ∷ 3 ∷ [])) (floats (0x3f800000 ∷ 0 ∷ 0x3f800000 ∷ [])) mark m
    (of_bits binary32 tolerance) limit 2

-- the record after a step solve: the block and the preconditioner, b, the mark, the tolerance and the limit are given
step : Tally → List ℕ → List ℕ → Bool → ℕ → ℕ → Tally
step t block b mark tolerance limit =
    let m = floats block in
    let v = floats (0 ∷ 0 ∷ []) in
    after_step t (outcome S.door (S.given (lent m mark tolerance limit) (floats b) v v v v v v))

-- and after a response with one entry, whose pinned mark is given, and whose particle
respond : Tally → ℕ → ℕ → Bool → Tally
respond t pinned particle mark =
    let m = floats (0x3f800000 ∷ 0 ∷ 0 ∷ 0x3f800000 ∷ []) in
    let v = floats (0 ∷ 0 ∷ []) in
    after_response t (outcome R.door (R.given (lent m mark 0 1) (pinned ∷ []) (entered 1 (particle ∷ []) (floats (0x40400000 ∷ 0x40800000 ∷ [])))
    v v v v v v v))

abbrev eye : List ℕ
eye = 0x3f800000 ∷ 0 ∷ 0 ∷ 0x3f800000 ∷ []

abbrev anti : List ℕ
anti = 0xbf800000 ∷ 0 ∷ 0 ∷ 0xbf800000 ∷ []

-- b = (3, 4)
abbrev b34 : List ℕ
b34 = 0x40400000 ∷ 0x40800000 ∷ []

-- one below the cap, at it, and above it
abbrev last : Tally
last = counts 3999999999 0 0 0 0 0 0

abbrev full : Tally
full = counts 1 2 3 4 5 6 3999999979

abbrev above : Tally
above = counts 4294967295 0 0 0 0 0 4294967295

record Readings : Type 0 where
  -- a step solve of each kind
  direct : step fresh eye b34 true 0 1 ≡ counts 1 0 0 0 0 0 0
  zero : step fresh eye (0 ∷ 0x80000000 ∷ []) false 0 1 ≡ counts 0 1 0 0 0 0 0
  near : step fresh eye b34 false 0x3f800000 1 ≡ counts 0 0 1 0 0 0 0
  converged : step fresh eye b34 false 0 1 ≡ counts 0 0 0 1 0 0 0
  curvature : step fresh anti b34 false 0 5 ≡ counts 0 0 0 0 1 0 0
  limit : step fresh eye b34 false 0 0 ≡ counts 0 0 0 0 0 1 0
  refused : step fresh eye b34 true 0 4097 ≡ counts 0 0 0 0 0 0 1
  -- a response counts the step solve that it asks for, by either route; refused, it is one refused call; with no entry left it asks for none
  by_factor : respond fresh 0 0 true ≡ counts 1 0 0 0 0 0 0
  by_turns : respond fresh 0 0 false ≡ counts 0 0 0 1 0 0 0
  response_refused : respond fresh 0 1 true ≡ counts 0 0 0 0 0 0 1
  nothing_left : respond fresh 1 0 true ≡ fresh
  -- other counts stay
  kept : step (counts 1 2 3 4 5 6 7) eye b34 false 0 1 ≡ counts 1 2 3 5 5 6 7
  -- the last call that counts; from the cap on the record stays, a refused call too
  last_one : step last eye b34 false 0 1 ≡ counts 3999999999 0 0 1 0 0 0
  at_cap : step full eye b34 true 0 1 ≡ full
  refused_at_cap : respond full 0 1 true ≡ full
  above_cap : step above eye b34 true 0 1 ≡ above

readings : Readings
unfolding floats counts lent step respond outcome S.refusals S.work S.directly S.iteratively R.refusals R.work R.answered R.idle R.rhs_of entries_room below
    free any_free load_step loaded gain_step raw_gain gain_of written later swept plan_held step_held structural when verdict enough D.work G.work G.solve_for
    G.vectors_room pattern_room plan_room factor_length formed well_formed offsetsOk columnsOk columnOk home_ok mirrors_ok stored fits_ok inside_ok row_ok
    slot_ok plan_rules_ok undo_ok back_ok firsts_ok twins_ok starts_ok grow_ok every some settings_ok solve_of placed_of permuted backward_of back_step taken_of
    forward_of forward_step forward_by solvedSum solved started launched fresh_of finished rescaled run turn product preconditioned advanced retreated
    redirected lacking scaled zeros product_at row_sum slot_step dot_all gather over fold of_bits add sub mul div neg lt le eq ne
readings = record {
  direct = refl;
  zero = refl;
  near = refl;
  converged = refl;
  curvature = refl;
  limit = refl;
  refused = refl;
  by_factor = refl;
  by_turns = refl;
  response_refused = refl;
  nothing_left = refl;
  kept = refl;
  last_one = refl;
  at_cap = refl;
  refused_at_cap = refl;
  above_cap = refl;
}
