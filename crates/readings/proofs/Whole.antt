-- THE STARRED READINGS, computed by the definitions that the public calls' promises cite. Assumes nothing.
use mathlib.Core.Path.{refl}
use lib.Ieee.{of_int, of_bits, add, sub, mul, div, neg, lt, le, eq, ne}
use Rattle.law.specs.Loop.{fold, over}
use Rattle.law.specs.Every.{every, some}
use Rattle.law.specs.Gather.{gather, up_to}
use Rattle.law.specs.Room.{enough}
use Rattle.law.specs.Refusal.{verdict}
use Rattle.law.specs.Promise.{outcome}
use Rattle.root.specs.Sqrt.{sqrt_of}
use Rattle.flat_runs.specs.Run.{dot_run}
use Rattle.vectors.specs.Whole.{dot_all}
use Rattle.matrix_shape.specs.Formed.{slot_ok as columnOk, home_ok, row_ok as columnsOk, stored, mirrors_ok, starts_ok as offsetsOk, well_formed}
use Rattle.matrix_shape.specs.Given.{pattern_room, formed}
use Rattle.matrix_shape.specs.Made as made
use Rattle.matrix_pairs.specs.Pairs.{joined, stored_by}
use Rattle.matrix_build.specs.Build.{built_of}
use Rattle.matrix_building.specs.Building as building
use Rattle.matrix_building.specs.FromPairs as frompairs
use Rattle.order_definition.specs.Order.{neighbours, reach, settle, choose_start, fresh, placing, order_of}
use Rattle.order_definition.specs.Envelope.{first_block, first_col, row_starts}
use Rattle.plan_make.specs.Plan as plan
use Rattle.plan_doors.specs.Planning as planning
use Rattle.plan_fits.specs.Fits.{back_ok, undo_ok, twins_ok, firsts_ok, grow_ok, starts_ok, plan_rules_ok, slot_ok, row_ok, inside_ok, fits_ok}
use Rattle.plan_fits.specs.Given.{plan_room, factor_length}
use Rattle.factor_load.specs.Load.{beside_of, corner_of, slot_into, slots_into, row_into, load_of}
use Rattle.factor_row.specs.Row.{later, reduced_of, entry_of, entry_step, left_of, square_step, pivot_of}
use Rattle.factor_make.specs.Factor.{close_of, row_of, row_step, factor_of}
use Rattle.factor_make.specs.Matrix.{matrix_of}
use Rattle.factor_passes.specs.Passes as passes
use Rattle.factor_substitution.specs.Solve as substitution
use Rattle.factor_doors.specs.Factorizing as factorizing
use Rattle.factor_doors.specs.Solving as substituting
use Rattle.matrix_values.specs.Product.{slot_step, row_sum, product_at}
use Rattle.gradient_definition.specs.Vectors.{product, preconditioned, advanced, retreated, redirected, lacking, scaled, zeros}
use Rattle.gradient_definition.specs.Solve.{turn, run, rescaled, finished, fresh_of, launched, started, solved}
use Rattle.gradient_definition.specs.Inverse.{or_identity, inverse_at}
use Rattle.gradient_refusals.specs.Settings.{settings_ok}
use Rattle.gradient_doors.specs.Updating as updating
use Rattle.gradient_doors.specs.Solving as iterating
use Rattle.readings.specs.Starred.{Starred}

pub starred : Starred
unfolding outcome verdict enough every some over fold gather up_to building.lists_room building.refusals building.work frompairs.values_room
    frompairs.refusals frompairs.work built_of stored_by joined made.starts_of made.slots_of made.cols_of made.start_of made.slot_of made.row_of
    planning.length_for planning.planning_room planning.early planning.refusals planning.laid_over planning.cleared planning.work planning.refuse
    plan.plan_by plan.plan_of plan.envelope_length pattern_room formed well_formed offsetsOk columnsOk columnOk home_ok mirrors_ok stored order_of placing
    fresh choose_start settle reach neighbours row_starts first_col first_block factorizing.refusals factorizing.values_room factorizing.work
    factorizing.state_of substituting.refusals substituting.values_room substituting.work plan_room factor_length fits_ok inside_ok row_ok slot_ok plan_rules_ok
    undo_ok back_ok firsts_ok twins_ok starts_ok grow_ok matrix_of load_of row_into slots_into slot_into beside_of corner_of factor_of row_step row_of close_of pivot_of
    square_step left_of entry_step entry_of reduced_of dot_run later sqrt_of substitution.solve_of substitution.placed_of substitution.permuted
    passes.backward_of passes.back_step passes.taken_of passes.forward_of passes.forward_step passes.forward_by passes.row_sum updating.refusals
    updating.inverses_room iterating.refusals iterating.vectors_room iterating.solve_for iterating.work settings_ok solved started launched fresh_of
    finished rescaled run turn product preconditioned advanced retreated redirected lacking scaled zeros or_identity inverse_at product_at row_sum
    slot_step dot_all of_int of_bits add sub mul div neg lt le eq ne
starred = record {
  none = refl;
  one = refl;
  three = refl;
  four = refl;
  from = refl;
  to = refl;
  six = refl;
  repeats = refl;
  ignored = refl;
  refused = refl;
  factor = refl;
  gives = refl;
  fails = refl;
  converged = refl;
  limit = refl;
  curvature = refl;
  six_says = refl;
  repeats_say = refl;
  refused_says = refl;
  factor_says = refl;
  fails_says = refl;
  converged_says = refl;
  limit_says = refl;
  curvature_says = refl;
}
