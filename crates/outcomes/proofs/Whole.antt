-- EVERY PUBLIC CALL'S CONTRACT ADMITS ONE OUTCOME, as the call's own crate proves. Assumes nothing.
use Rattle.law.proofs.Outcome as law
use Rattle.plane.proofs.Outcome as plane
use Rattle.root.proofs.Outcome as root
use Rattle.matrix_row_view.proofs.Outcome as matrix_row_view
use Rattle.matrix_doors.proofs.Outcome as matrix_doors
use Rattle.plan_doors.proofs.Outcome as plan_doors
use Rattle.factor_doors.proofs.Outcome as factor_doors
use Rattle.gradient_doors.proofs.Outcome as gradient_doors
use Rattle.step_doors.proofs.Outcome as step_doors
use Rattle.columns_doors.proofs.Outcome as columns_doors
use Rattle.step_tally.proofs.Outcome as step_tally
use Rattle.bench_desk.proofs.Outcome as bench_desk
use Rattle.outcomes.specs.Calls.{EveryCall}

pub one_outcome : EveryCall
one_outcome = record {
  law_wide = law.one_wide;
  plane_add = plane.one_add;
  plane_sub = plane.one_sub;
  plane_scale = plane.one_scale;
  plane_dot = plane.one_dot;
  plane_times = plane.one_times;
  plane_determinant = plane.one_determinant;
  plane_inverse = plane.one_inverse;
  plane_is_finite = plane.one_is_finite;
  root_isqrt = root.one_isqrt;
  root_root = root.one_root;
  matrix_row_view_row_span = matrix_row_view.one_row_span;
  matrix_row_view_row_col = matrix_row_view.one_row_col;
  matrix_row_view_row_slot = matrix_row_view.one_row_slot;
  matrix_doors_from_pairs = matrix_doors.one_from_pairs;
  matrix_doors_pattern_from_pairs = matrix_doors.one_pattern_from_pairs;
  matrix_doors_block_index = matrix_doors.one_block_index;
  matrix_doors_diagonal_index = matrix_doors.one_diagonal_index;
  matrix_doors_clear_values = matrix_doors.one_clear_values;
  matrix_doors_mul = matrix_doors.one_mul;
  matrix_doors_make_dirichlet = matrix_doors.one_make_dirichlet;
  matrix_doors_make_dirichlet_marked = matrix_doors.one_make_dirichlet_marked;
  plan_doors_plan = plan_doors.one_plan;
  factor_doors_factorize = factor_doors.one_factorize;
  factor_doors_solve = factor_doors.one_solve;
  gradient_doors_update_preconditioner = gradient_doors.one_update_preconditioner;
  gradient_doors_solve = gradient_doors.one_solve;
  step_doors_factorize_step_matrix = step_doors.one_factorize_step_matrix;
  step_doors_solve_step = step_doors.one_solve_step;
  step_doors_response_into = step_doors.one_response_into;
  columns_doors_clear_columns = columns_doors.one_clear_columns;
  columns_doors_load_particle = columns_doors.one_load_particle;
  columns_doors_compute_columns = columns_doors.one_compute_columns;
  columns_doors_response_from_columns = columns_doors.one_response_from_columns;
  columns_doors_particle_block_from_columns = columns_doors.one_particle_block_from_columns;
  step_tally_fresh = step_tally.one_fresh;
  step_tally_total = step_tally.one_total;
  step_tally_added = step_tally.one_added;
  step_tally_counted = step_tally.one_counted;
  step_tally_count = step_tally.one_count;
  bench_desk_answer = bench_desk.one_answer;
}
