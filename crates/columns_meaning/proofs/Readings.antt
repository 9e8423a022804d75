-- Readings, computed: columns of one particle and of two, on either route, counted in a lent record; and one entry combined from them, beside the
-- response on the same matrix. Lists have a place too many, and NaN in all that may be written. Assumes nothing.
use Prim.Native.Nat.{ℕ}
use mathlib.Core.Path.{◌≡◌, refl, sym, ap, ◌∙◌}
use mathlib.Core.Bool.{true}
use mathlib.Core.List.{List, [], ◌∷◌, ◌++◌, map}
use lib.Ieee.{Float, nan, binary32, of_bits, add, sub, mul, div, neg, lt, le, eq, ne}
use Rattle.law.specs.Limit.{unloaded}
use Rattle.law.specs.Loop.{fold, over}
use Rattle.law.specs.Every.{every, some}
use Rattle.law.specs.Sum.{sum, bit}
use Rattle.law.specs.Gather.{gather}
use Rattle.law.specs.Store.{written}
use Rattle.law.specs.Room.{enough}
use Rattle.law.specs.Refusal.{verdict, when}
use Rattle.law.specs.Promise.{outcome}
use Rattle.vectors.specs.Whole.{dot_all}
use Rattle.matrix_shape.specs.Formed.{slot_ok as columnOk, home_ok, row_ok as columnsOk, stored, mirrors_ok, starts_ok as offsetsOk, well_formed}
use Rattle.matrix_shape.specs.Given.{pattern_room, formed}
use Rattle.plan_fits.specs.Fits.{back_ok, undo_ok, twins_ok, firsts_ok, grow_ok, starts_ok, plan_rules_ok, slot_ok, row_ok, inside_ok, fits_ok}
use Rattle.plan_fits.specs.Given.{plan_room, factor_length}
use Rattle.factor_passes.specs.Passes.{row_sum as solvedSum, forward_by, forward_step, forward_of, taken_of, back_step, backward_of}
use Rattle.factor_substitution.specs.Solve.{permuted, placed_of, solve_of}
use Rattle.matrix_values.specs.Product.{slot_step, row_sum, product_at}
use Rattle.gradient_definition.specs.Vectors.{product, preconditioned, advanced, retreated, redirected, lacking, scaled, zeros}
use Rattle.gradient_definition.specs.Solve.{turn, run, rescaled, finished, fresh_of, launched, started, solved}
use Rattle.factor_doors.specs.Solving as D
use Rattle.gradient_refusals.specs.Settings.{settings_ok}
use Rattle.gradient_doors.specs.Solving as G
use Rattle.step_tally.specs.declared.Tally.{Tally}
use Rattle.step_tally.specs.Runs.{fresh}
use Rattle.step_routes.specs.Dense.{swept, plan_held, step_held, structural, later}
use Rattle.step_solve.specs.Stepping as S
use Rattle.step_entries.specs.Entries.{entries_room, below, free, any_free, load_step, loaded, gain_step, raw_gain, gain_of}
use Rattle.step_response.specs.declared.Responded.TheVariants as responded
use Rattle.step_response.specs.Responding as R
use Rattle.columns_table.specs.Table.{entry_ok, times, numbered, table_ok}
use Rattle.std.specs.Prelude.{Result, Ok, Err}
use Rattle.law.specs.declared.refusal.Refusal.{Refusal}
use Rattle.law.specs.declared.refusal.Refusal.TheVariants.{BadPlan}
use Rattle.matrix_shape.specs.Shape.{shape}
use Rattle.plan_fits.specs.Layout.{layout}
use Rattle.step_routes.specs.System.{Sys, system}
use Rattle.step_entries.specs.Lent.{entered}
use Rattle.columns_table.specs.Lent.{numbering}
use Rattle.columns_make.specs.declared.Ended.{Ended}
use Rattle.columns_make.specs.Making as M
use Rattle.columns_combine.specs.declared.Combined.TheVariants.{Gain}
use Rattle.columns_combine.specs.Summed.{axis_added, entry_added, summed}
use Rattle.columns_combine.specs.Combining as C

floats : List ℕ → List Float
floats l = map (of_bits binary32) l

-- the seven counts: direct, Zero, Near, Converged, Curvature, Limit, refused
counts : ℕ → ℕ → ℕ → ℕ → ℕ → ℕ → ℕ → Tally
counts direct nought near converged curvature limit refused =
    record { direct = direct; zero = nought; near = near; converged = converged; curvature = curvature; limit = limit; refused = refused }

-- lists of n vectors that may be written; and the same with their needed part zero
junk : ℕ → List Float
junk n = gather (λ k. nan ∷ nan ∷ []) 0 n ++ (nan ∷ [])

none : ℕ → List Float
none n = gather (λ k. floats (0 ∷ 0 ∷ [])) 0 n ++ (nan ∷ [])

-- ONE PARTICLE, whose block is (1, 1), (1, 2) and whose factor is 1, 1, 1. max_dense_dofs, the limit, the count and the table's number are given
abbrev block : List Float
block = floats (0x3f800000 ∷ 0x3f800000 ∷ 0x3f800000 ∷ 0x40000000 ∷ [])

abbrev factor : List Float
factor = floats (0x3f800000 ∷ 0x3f800000 ∷ 0x3f800000 ∷ [])

alone : ℕ → ℕ → Sys
alone dofs limit =
    system (shape 1 (0 ∷ 1 ∷ []) (0 ∷ []) (0 ∷ [])) block (layout (0 ∷ []) (0 ∷ []) (0 ∷ 0 ∷ []) (0 ∷ 1 ∷ 3 ∷ [])) factor true block
    (of_bits binary32 0) limit dofs

compute : ℕ → ℕ → ℕ → ℕ → Tally → M.Out
compute dofs limit loaded number t =
    outcome M.door (M.given (alone dofs limit) (numbering (0 ∷ []) loaded (number ∷ [])) (junk 2) (junk 1) (junk 1) (junk 1) (junk 1) (junk 1) (junk 1) t)

-- one entry, (3, 4) at the particle, from these columns; and the response to it
abbrev gradient : List Float
gradient = floats (0x40400000 ∷ 0x40800000 ∷ [])

combine : List Float → C.Out
combine columns = outcome C.door (C.given 1 (numbering (0 ∷ []) 1 (0 ∷ [])) columns (entered 1 (0 ∷ []) gradient) (junk 1))

respond : R.Out
respond =
    outcome R.door (R.given (alone 2 1) (0 ∷ []) (entered 1 (0 ∷ []) gradient) (junk 1) (junk 1) (junk 1) (junk 1) (junk 1) (junk 1) (junk 1))

-- (2, -1), (-1, 1)
abbrev inverse : List Float
inverse = floats (0x40000000 ∷ 0xbf800000 ∷ 0xbf800000 ∷ 0x3f800000 ∷ []) ++ (nan ∷ [])

-- (2, 1), and the gain 3 * 2 + 4 * 1
abbrev both : List Float
both = floats (0x40000000 ∷ 0x3f800000 ∷ []) ++ (nan ∷ [])

abbrev ten : Float
ten = of_bits binary32 0x41200000

-- the six counts
abbrev ended : ℕ → ℕ → ℕ → ℕ → ℕ → ℕ → Result Ended Refusal
ended direct nought near converged curvature limit =
    Ok (record { direct = direct; zero = nought; near = near; converged = converged; curvature = curvature; limit = limit })

-- the work lists zeroed, with the scratch
cleared : Result Ended Refusal → List Float → Tally → M.Out
cleared r columns t = M.left r columns (none 1) (none 1) (none 1) (none 1) (none 1) (none 1) t

-- TWO PARTICLES that don't touch, the first's block the identity, the second's minus it, so that the first's solves converge and the second's bend.
-- They are numbered against their order
abbrev eye : List ℕ
eye = 0x3f800000 ∷ 0 ∷ 0 ∷ 0x3f800000 ∷ []

abbrev anti : List ℕ
anti = 0xbf800000 ∷ 0 ∷ 0 ∷ 0xbf800000 ∷ []

crossed : Tally → M.Out
crossed t =
    outcome M.door (M.given (system (shape 2 (0 ∷ 1 ∷ 2 ∷ []) (0 ∷ 1 ∷ []) (0 ∷ 1 ∷ [])) (floats (eye ++ anti)) (layout [] [] [] []) [] true
    (floats (eye ++ eye)) (of_bits binary32 0) 5 3) (numbering (0 ∷ 0 ∷ []) 2 (1 ∷ 0 ∷ [])) (junk 8) (junk 2) [] (junk 2) (junk 2) (junk 2) (junk 2) t)

-- the second's columns come first, the first's behind them
abbrev crossed_columns : List Float
crossed_columns = floats (0 ∷ 0 ∷ 0 ∷ 0 ∷ 0 ∷ 0 ∷ 0 ∷ 0 ∷ 0x3f800000 ∷ 0 ∷ 0 ∷ 0 ∷ 0 ∷ 0x3f800000 ∷ 0 ∷ 0 ∷ []) ++ (nan ∷ [])

record Readings : Type 0 where
  -- the two solves give the inverse, by the factor
  columns : compute 2 1 1 0 fresh ≡ cleared (ended 2 0 0 0 0 0) inverse (counts 2 0 0 0 0 0 0)
  -- one entry combined from them, and the response to it, by the same numbers
  combined : combine (compute 2 1 1 0 fresh).columns ≡ C.left (Ok (Gain ten)) both
  response : respond ≡ R.left (Ok (responded.Direct ten)) both (none 1) (none 1) (none 1) (none 1) (none 1) (none 1)
  same_out : (combine (compute 2 1 1 0 fresh).columns).out ≡ respond.out
  -- none loaded: the work lists are zeroed, the columns left, and nothing is counted
  none_loaded : compute 2 1 0 unloaded (counts 1 2 3 4 5 6 7) ≡ cleared (ended 0 0 0 0 0 0) (junk 2) (counts 1 2 3 4 5 6 7)
  -- by iteration with no turn: the limit, twice, and zeros; the scratch is left
  no_turn : compute 1 0 1 0 fresh ≡ M.left (ended 0 0 0 0 0 2) (none 2) (none 1) (junk 1) (none 1) (none 1) (none 1) (none 1) (counts 0 0 0 0 0 2 0)
  -- refused, by a number at the count: nothing is changed, and one refused call counted
  refused : compute 2 1 0 0 (counts 1 2 3 4 5 6 7)
      ≡ M.left (Err BadPlan) (junk 2) (junk 1) (junk 1) (junk 1) (junk 1) (junk 1) (junk 1) (counts 1 2 3 4 5 6 8)
  -- the cap in between: of two solves the lent record counts the first alone, the answer both
  at_cap : compute 2 1 1 0 (counts 0 0 0 3999999999 0 0 0) ≡ cleared (ended 2 0 0 0 0 0) inverse (counts 1 0 0 3999999999 0 0 0)
  -- by particle, rising, whatever the numbers: two below the cap, it is the first's solves that are counted
  by_particle : crossed (counts 3999999998 0 0 0 0 0 0)
      ≡ M.left (ended 0 0 0 2 2 0) crossed_columns (none 2) [] (none 2) (none 2) (none 2) (none 2) (counts 3999999998 0 0 2 0 0 0)

readings : Readings
unfolding floats counts junk none alone compute combine respond cleared crossed outcome verdict enough when
    M.refusals M.later M.making_room M.axis_made M.particle_made M.begun M.made M.work table_ok numbered times entry_ok sum bit
    C.refusals C.columns_room C.sum_for C.work summed entry_added axis_added
    S.work S.directly S.iteratively R.refusals R.work R.answered R.idle R.rhs_of entries_room below
    free any_free load_step loaded gain_step raw_gain gain_of written later swept plan_held step_held structural D.work G.work G.solve_for
    G.vectors_room pattern_room plan_room factor_length formed well_formed offsetsOk columnsOk columnOk home_ok mirrors_ok stored fits_ok inside_ok row_ok
    slot_ok plan_rules_ok undo_ok back_ok firsts_ok twins_ok starts_ok grow_ok every some settings_ok solve_of placed_of permuted backward_of back_step taken_of
    forward_of forward_step forward_by solvedSum solved started launched fresh_of finished rescaled run turn product preconditioned advanced retreated
    redirected lacking scaled zeros product_at row_sum slot_step dot_all gather over fold of_bits add sub mul div neg lt le eq ne
readings =
    let combined : combine (compute 2 1 1 0 fresh).columns ≡ C.left (Ok (Gain ten)) both = refl in
    let response : respond ≡ R.left (Ok (responded.Direct ten)) both (none 1) (none 1) (none 1) (none 1) (none 1) (none 1) = refl in
    record {
      columns = refl;
      combined = combined;
      response = response;
      same_out = ap (λ (o : C.Out). o.out) combined ∙ sym (ap (λ (o : R.Out). o.out) response);
      none_loaded = refl;
      no_turn = refl;
      refused = refl;
      at_cap = refl;
      by_particle = refl;
    }
