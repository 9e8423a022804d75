-- The readings (RULES.md § 11) of the factor and of the solve with it, and two particles in the reverse order,
-- through the doors, computed: so the theorems have something to speak of. Assumes nothing.
use mathlib.Core.Path.{◌≡◌, refl, ap}
use mathlib.Core.List.{List, [], ◌∷◌}
use lib.Ieee.{Float, nan, binary32, of_bits, add, sub, mul, div, lt}
use Rattle.std.specs.Prelude.{Ok, Err}
use Rattle.law.specs.Loop.{fold, over}
use Rattle.law.specs.Every.{every, some}
use Rattle.law.specs.Gather.{gather}
use Rattle.law.specs.Room.{enough}
use Rattle.law.specs.Refusal.{verdict, when}
use Rattle.law.specs.Promise.{outcome}
use Rattle.law.proofs.Promise.{some_outcome}
use Rattle.root.specs.Sqrt.{sqrt_of}
use Rattle.plane.specs.Plane.{zero32, one32}
use Rattle.flat_runs.specs.Run.{dot_run}
use Rattle.matrix_shape.specs.Formed.{slot_ok as columnOk, home_ok, row_ok as columnsOk, stored, mirrors_ok, starts_ok as offsetsOk, well_formed}
use Rattle.matrix_shape.specs.Rows.{at}
use Rattle.matrix_shape.specs.Shape.{shape}
use Rattle.matrix_shape.specs.Given.{pattern_room, formed}
use Rattle.plan_fits.specs.Fits.{back_ok, undo_ok, twins_ok, firsts_ok, grow_ok, starts_ok, plan_rules_ok, slot_ok, row_ok, inside_ok, fits_ok}
use Rattle.plan_fits.specs.Given.{plan_room, factor_length}
use Rattle.plan_fits.specs.Cells.{look}
use Rattle.plan_fits.specs.Layout.{layout}
use Rattle.factor_load.specs.Load.{beside_of, corner_of, slot_into, slots_into, row_into, load_of}
use Rattle.factor_load.specs.Permuted.{permuted}
use Rattle.factor_row.specs.Row.{later, reduced_of, entry_of, entry_step, left_of, square_step, pivot_of}
use Rattle.factor_make.specs.Factored as factored
use Rattle.factor_make.specs.Factor.{close_of, row_of, row_step, factor_of}
use Rattle.factor_make.specs.Matrix.{matrix_of}
use Rattle.factor_make.specs.Entry.{Finished, Ended}
use Rattle.factor_passes.specs.Passes.{row_sum, forward_by, forward_step, forward_of, taken_of, back_step, backward_of}
use Rattle.factor_substitution.specs.Solve.{permuted as parted, placed_of, solve_of}
use Rattle.factor_doors.specs.Factorizing as F
use Rattle.factor_doors.specs.Solving as S
use Rattle.gradient_doors.specs.Updating.{inverses_room}
use Rattle.step_routes.specs.Dense.{plan_held, structural}
use Rattle.step_solve.specs.Marking as M
use Rattle.step_solve.specs.declared.Marked.TheVariants as marked
use Rattle.factor_cholesky.specs.Solve.{Leaves}
use Rattle.factor_cholesky.proofs.Whole.{leaves_cholesky, step_leaves_cholesky, gives_substituted}

-- ---- whole numbers as f32

abbrev two : Float
two = of_bits binary32 0x4000_0000

abbrev three : Float
three = of_bits binary32 0x4040_0000

abbrev four : Float
four = of_bits binary32 0x4080_0000

abbrev five : Float
five = of_bits binary32 0x40a0_0000

abbrev six : Float
six = of_bits binary32 0x40c0_0000

abbrev seven : Float
seven = of_bits binary32 0x40e0_0000

abbrev nine : Float
nine = of_bits binary32 0x4110_0000

abbrev ten : Float
ten = of_bits binary32 0x4120_0000

-- ---- the factor of one particle's block; its list has NaN, and a ten past the factor

alone : List Float → F.In
alone blocks = F.given (shape 1 (0 ∷ 1 ∷ []) (0 ∷ []) (0 ∷ [])) blocks (layout (0 ∷ []) (0 ∷ []) (0 ∷ 0 ∷ []) (0 ∷ 1 ∷ 3 ∷ [])) (nan ∷ nan ∷ nan ∷ ten ∷ [])

-- of two particles the second comes first; the block above the diagonal, which has nines here, is not read
pair_blocks : List Float
pair_blocks = six ∷ five ∷ five ∷ ten ∷ two ∷ four ∷ seven ∷ five ∷ nine ∷ nine ∷ nine ∷ nine ∷ four ∷ two ∷ two ∷ ten ∷ []

both : F.In
both = F.given (shape 2 (0 ∷ 2 ∷ 4 ∷ []) (0 ∷ 1 ∷ 0 ∷ 1 ∷ []) (0 ∷ 3 ∷ [])) pair_blocks (layout (1 ∷ 0 ∷ []) (1 ∷ 0 ∷ []) (0 ∷ 0 ∷ 0 ∷ 0 ∷ [])
    (0 ∷ 1 ∷ 3 ∷ 6 ∷ 10 ∷ [])) (nan ∷ nan ∷ nan ∷ nan ∷ nan ∷ nan ∷ nan ∷ nan ∷ nan ∷ nan ∷ ten ∷ [])

record Factors : Type 0 where
  done : outcome F.door (alone (four ∷ two ∷ two ∷ ten ∷ [])) ≡ F.left (Ok (Ok tt)) (two ∷ one32 ∷ three ∷ ten ∷ [])
  ended : outcome F.door (alone (one32 ∷ two ∷ two ∷ four ∷ [])) ≡ F.left (Ok (Err (factored.failed 1 zero32))) (one32 ∷ two ∷ four ∷ ten ∷ [])
  pair : outcome F.door both ≡ F.left (Ok (Ok tt)) (two ∷ one32 ∷ three ∷ one32 ∷ two ∷ one32 ∷ two ∷ one32 ∷ one32 ∷ two ∷ ten ∷ [])

factors : Factors
unfolding alone both pair_blocks outcome F.refusals F.work F.state_of verdict enough F.values_room pattern_room plan_room factor_length formed well_formed
    offsetsOk columnsOk columnOk home_ok mirrors_ok stored fits_ok inside_ok row_ok slot_ok plan_rules_ok undo_ok back_ok firsts_ok twins_ok starts_ok grow_ok every
    some over fold matrix_of load_of row_into slots_into slot_into beside_of corner_of factor_of row_step row_of close_of pivot_of square_step left_of entry_step
    entry_of reduced_of dot_run later sqrt_of of_bits add sub mul div lt
factors = record { done = refl; ended = refl; pair = refl }

-- CHOLESKY'S FACTOR of (4, 2), (2, 10) is 2, 1, 3
finished : Finished 2 (at (0 ∷ 0 ∷ [])) (permuted (at (0 ∷ 1 ∷ [])) (at (0 ∷ [])) (four ∷ two ∷ two ∷ ten ∷ []) (at (0 ∷ [])))
    (look (at (0 ∷ 0 ∷ [])) (at (0 ∷ 1 ∷ 3 ∷ [])) (two ∷ one32 ∷ three ∷ ten ∷ []))
unfolding alone
finished =
    let i = alone (four ∷ two ∷ two ∷ ten ∷ []) in
    let l = leaves_cholesky i (outcome F.door i) (some_outcome F.door i) in
    rw factors.done at (l.done (ap (λ (o : F.Out). o.answer) factors.done))

-- and (1, 2), (2, 4) fails at row 1 with the pivot 0, as loaded but for its row's entry left of the diagonal
failed : Ended 2 (at (0 ∷ 0 ∷ [])) (permuted (at (0 ∷ 1 ∷ [])) (at (0 ∷ [])) (one32 ∷ two ∷ two ∷ four ∷ []) (at (0 ∷ [])))
    (look (at (0 ∷ 0 ∷ [])) (at (0 ∷ 1 ∷ 3 ∷ [])) (one32 ∷ two ∷ four ∷ ten ∷ [])) 1 zero32
unfolding alone
failed =
    let i = alone (one32 ∷ two ∷ two ∷ four ∷ []) in
    let l = leaves_cholesky i (outcome F.door i) (some_outcome F.door i) in
    rw factors.ended at (l.failed 1 zero32 (ap (λ (o : F.Out). o.answer) factors.ended))

-- and of the two particles
reversed : Finished 4 (at (0 ∷ 0 ∷ 0 ∷ 0 ∷ [])) (permuted (at (0 ∷ 2 ∷ 4 ∷ [])) (at (0 ∷ 1 ∷ 0 ∷ 1 ∷ [])) pair_blocks (at (1 ∷ 0 ∷ [])))
    (look (at (0 ∷ 0 ∷ 0 ∷ 0 ∷ [])) (at (0 ∷ 1 ∷ 3 ∷ 6 ∷ 10 ∷ []))
    (two ∷ one32 ∷ three ∷ one32 ∷ two ∷ one32 ∷ two ∷ one32 ∷ one32 ∷ two ∷ ten ∷ []))
unfolding both
reversed =
    let l = leaves_cholesky both (outcome F.door both) (some_outcome F.door both) in
    rw factors.pair at (l.done (ap (λ (o : F.Out). o.answer) factors.pair))

-- ---- the same of a step's matrix, 2n being at most max_dense_dofs

stepped : M.In
stepped = M.given (shape 1 (0 ∷ 1 ∷ []) (0 ∷ []) (0 ∷ [])) (four ∷ two ∷ two ∷ ten ∷ []) (layout (0 ∷ []) (0 ∷ []) (0 ∷ 0 ∷ []) (0 ∷ 1 ∷ 3 ∷ [])) 2
    (nan ∷ nan ∷ nan ∷ ten ∷ []) (nan ∷ nan ∷ nan ∷ nan ∷ [])

stepped_is : outcome M.door stepped ≡ M.left (Ok marked.Direct) (two ∷ one32 ∷ three ∷ ten ∷ []) (nan ∷ nan ∷ nan ∷ nan ∷ [])
unfolding stepped outcome M.refusals M.work plan_held structural when verdict enough F.work F.state_of inverses_room pattern_room plan_room factor_length
    formed well_formed offsetsOk columnsOk columnOk home_ok mirrors_ok stored fits_ok inside_ok row_ok slot_ok plan_rules_ok undo_ok back_ok firsts_ok twins_ok
    starts_ok grow_ok every some over fold matrix_of load_of row_into slots_into slot_into beside_of corner_of factor_of row_step row_of close_of pivot_of
    square_step left_of entry_step entry_of reduced_of dot_run later sqrt_of of_bits add sub mul div lt
stepped_is = refl

step_finished : Finished 2 (at (0 ∷ 0 ∷ [])) (permuted (at (0 ∷ 1 ∷ [])) (at (0 ∷ [])) (four ∷ two ∷ two ∷ ten ∷ []) (at (0 ∷ [])))
    (look (at (0 ∷ 0 ∷ [])) (at (0 ∷ 1 ∷ 3 ∷ [])) (two ∷ one32 ∷ three ∷ ten ∷ []))
unfolding stepped
step_finished =
    let l = step_leaves_cholesky stepped (outcome M.door stepped) (some_outcome M.door stepped) in
    rw stepped_is at (l.direct (ap (λ (o : M.Out). o.answer) stepped_is))

-- ---- the solve with these factors

-- b = (6, 12)
alone_solve : S.In
alone_solve = S.given 1 (layout (0 ∷ []) (0 ∷ []) (0 ∷ 0 ∷ []) (0 ∷ 1 ∷ 3 ∷ [])) (two ∷ one32 ∷ three ∷ ten ∷ []) (six ∷ of_bits binary32 0x4140_0000 ∷ [])
    (nan ∷ nan ∷ ten ∷ []) (nan ∷ nan ∷ ten ∷ [])

-- b is (36, 49) at particle 0 and (22, 41) at particle 1
both_solve : S.In
both_solve = S.given 2 (layout (1 ∷ 0 ∷ []) (1 ∷ 0 ∷ []) (0 ∷ 0 ∷ 0 ∷ 0 ∷ []) (0 ∷ 1 ∷ 3 ∷ 6 ∷ 10 ∷ []))
    (two ∷ one32 ∷ three ∷ one32 ∷ two ∷ one32 ∷ two ∷ one32 ∷ one32 ∷ two ∷ ten ∷ [])
    (of_bits binary32 0x4210_0000 ∷ of_bits binary32 0x4244_0000 ∷ of_bits binary32 0x41b0_0000 ∷ of_bits binary32 0x4224_0000 ∷ [])
    (nan ∷ nan ∷ nan ∷ nan ∷ ten ∷ []) (nan ∷ nan ∷ nan ∷ nan ∷ ten ∷ [])

record Solves : Type 0 where
  alone_gives : outcome S.door alone_solve ≡ S.left (Ok tt) (one32 ∷ one32 ∷ ten ∷ []) (zero32 ∷ zero32 ∷ ten ∷ [])
  -- particle 0, in the second position, has (2, 3), and particle 1 has (1, 1)
  both_give : outcome S.door both_solve ≡ S.left (Ok tt) (two ∷ three ∷ one32 ∷ one32 ∷ ten ∷ []) (zero32 ∷ zero32 ∷ zero32 ∷ zero32 ∷ ten ∷ [])

solves : Solves
unfolding alone_solve both_solve outcome S.refusals S.work verdict enough S.values_room plan_room factor_length plan_rules_ok undo_ok back_ok firsts_ok twins_ok
    starts_ok grow_ok every over fold solve_of placed_of parted backward_of back_step taken_of forward_of forward_step forward_by row_sum gather of_bits add sub mul div
solves = record { alone_gives = refl; both_give = refl }

-- THE SUBSTITUTIONS' X of these
substituted : (y : List Float) × ((z : List Float) × Leaves both_solve
    (S.left (Ok tt) (two ∷ three ∷ one32 ∷ one32 ∷ ten ∷ []) (zero32 ∷ zero32 ∷ zero32 ∷ zero32 ∷ ten ∷ [])) y z)
substituted =
    rw solves.both_give at (gives_substituted both_solve (outcome S.door both_solve) (some_outcome S.door both_solve)
    (ap (λ (o : S.Out). o.answer) solves.both_give))
