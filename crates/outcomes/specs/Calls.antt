-- EVERY PUBLIC CALL, and that its contract admits one outcome and not none. A line cites what the call's own theorem
-- cites, its `spec`, made of the `ensures` in its source.
use Rattle.law.specs.One.{OneOutcome}
use Rattle.law.specs.contracts.wide as wide
use Rattle.plane.specs.contracts.add as add
use Rattle.plane.specs.contracts.sub as sub
use Rattle.plane.specs.contracts.scale as scale
use Rattle.plane.specs.contracts.dot as dot
use Rattle.plane.specs.contracts.times as times
use Rattle.plane.specs.contracts.determinant as determinant
use Rattle.plane.specs.contracts.inverse as inverse
use Rattle.plane.specs.contracts.is_finite as is_finite
use Rattle.root.specs.contracts.isqrt as isqrt
use Rattle.root.specs.contracts.root as root
use Rattle.matrix_row_view.specs.contracts.row_span as row_span
use Rattle.matrix_row_view.specs.contracts.row_col as row_col
use Rattle.matrix_row_view.specs.contracts.row_slot as row_slot
use Rattle.matrix_doors.specs.contracts.from_pairs as from_pairs
use Rattle.matrix_doors.specs.contracts.pattern_from_pairs as pattern_from_pairs
use Rattle.matrix_doors.specs.contracts.block_index as block_index
use Rattle.matrix_doors.specs.contracts.diagonal_index as diagonal_index
use Rattle.matrix_doors.specs.contracts.clear_values as clear_values
use Rattle.matrix_doors.specs.contracts.mul as mul
use Rattle.matrix_doors.specs.contracts.make_dirichlet as make_dirichlet
use Rattle.matrix_doors.specs.contracts.make_dirichlet_marked as make_dirichlet_marked
use Rattle.plan_doors.specs.contracts.plan as plan
use Rattle.factor_doors.specs.contracts.factorize as factorize
use Rattle.factor_doors.specs.contracts.solve as factor_solve
use Rattle.gradient_doors.specs.contracts.update_preconditioner as update_preconditioner
use Rattle.gradient_doors.specs.contracts.solve as gradient_solve
use Rattle.step_doors.specs.contracts.factorize_step_matrix as factorize_step_matrix
use Rattle.step_doors.specs.contracts.solve_step as solve_step
use Rattle.step_doors.specs.contracts.response_into as response_into
use Rattle.columns_doors.specs.contracts.clear_columns as clear_columns
use Rattle.columns_doors.specs.contracts.load_particle as load_particle
use Rattle.columns_doors.specs.contracts.compute_columns as compute_columns
use Rattle.columns_doors.specs.contracts.response_from_columns as response_from_columns
use Rattle.columns_doors.specs.contracts.particle_block_from_columns as particle_block_from_columns
use Rattle.step_tally.specs.contracts.fresh as fresh
use Rattle.step_tally.specs.contracts.total as total
use Rattle.step_tally.specs.contracts.added as added
use Rattle.step_tally.specs.contracts.counted as counted
use Rattle.step_tally.specs.contracts.count as count
use Rattle.bench_desk.specs.contracts.answer as answer

pub record EveryCall : Type 2 where
  -- law
  pub law_wide : OneOutcome wide.ended (λ M 𝓤. wide.spec)
  -- plane
  pub plane_add : OneOutcome add.ended (λ M 𝓤. add.spec)
  pub plane_sub : OneOutcome sub.ended (λ M 𝓤. sub.spec)
  pub plane_scale : OneOutcome scale.ended (λ M 𝓤. scale.spec)
  pub plane_dot : OneOutcome dot.ended (λ M 𝓤. dot.spec)
  pub plane_times : OneOutcome times.ended (λ M 𝓤. times.spec)
  pub plane_determinant : OneOutcome determinant.ended (λ M 𝓤. determinant.spec)
  pub plane_inverse : OneOutcome inverse.ended (λ M 𝓤. inverse.spec)
  pub plane_is_finite : OneOutcome is_finite.ended (λ M 𝓤. is_finite.spec)
  -- root
  pub root_isqrt : OneOutcome isqrt.ended (λ M 𝓤. isqrt.spec)
  pub root_root : OneOutcome root.ended (λ M 𝓤. root.spec)
  -- matrix_row_view
  pub matrix_row_view_row_span : OneOutcome row_span.ended (λ M 𝓤. row_span.spec)
  pub matrix_row_view_row_col : OneOutcome row_col.ended (λ M 𝓤. row_col.spec)
  pub matrix_row_view_row_slot : OneOutcome row_slot.ended (λ M 𝓤. row_slot.spec)
  -- matrix_doors
  pub matrix_doors_from_pairs : OneOutcome from_pairs.ended (λ M 𝓤. from_pairs.spec)
  pub matrix_doors_pattern_from_pairs : OneOutcome pattern_from_pairs.ended (λ M 𝓤. pattern_from_pairs.spec)
  pub matrix_doors_block_index : OneOutcome block_index.ended (λ M 𝓤. block_index.spec)
  pub matrix_doors_diagonal_index : OneOutcome diagonal_index.ended (λ M 𝓤. diagonal_index.spec)
  pub matrix_doors_clear_values : OneOutcome clear_values.ended (λ M 𝓤. clear_values.spec)
  pub matrix_doors_mul : OneOutcome mul.ended (λ M 𝓤. mul.spec)
  pub matrix_doors_make_dirichlet : OneOutcome make_dirichlet.ended (λ M 𝓤. make_dirichlet.spec)
  pub matrix_doors_make_dirichlet_marked : OneOutcome make_dirichlet_marked.ended (λ M 𝓤. make_dirichlet_marked.spec)
  -- plan_doors
  pub plan_doors_plan : OneOutcome plan.ended (λ M 𝓤. plan.spec)
  -- factor_doors
  pub factor_doors_factorize : OneOutcome factorize.ended (λ M 𝓤. factorize.spec)
  pub factor_doors_solve : OneOutcome factor_solve.ended (λ M 𝓤. factor_solve.spec)
  -- gradient_doors
  pub gradient_doors_update_preconditioner : OneOutcome update_preconditioner.ended (λ M 𝓤. update_preconditioner.spec)
  pub gradient_doors_solve : OneOutcome gradient_solve.ended (λ M 𝓤. gradient_solve.spec)
  -- step_doors
  pub step_doors_factorize_step_matrix : OneOutcome factorize_step_matrix.ended (λ M 𝓤. factorize_step_matrix.spec)
  pub step_doors_solve_step : OneOutcome solve_step.ended (λ M 𝓤. solve_step.spec)
  pub step_doors_response_into : OneOutcome response_into.ended (λ M 𝓤. response_into.spec)
  -- columns_doors
  pub columns_doors_clear_columns : OneOutcome clear_columns.ended (λ M 𝓤. clear_columns.spec)
  pub columns_doors_load_particle : OneOutcome load_particle.ended (λ M 𝓤. load_particle.spec)
  pub columns_doors_compute_columns : OneOutcome compute_columns.ended (λ M 𝓤. compute_columns.spec)
  pub columns_doors_response_from_columns : OneOutcome response_from_columns.ended (λ M 𝓤. response_from_columns.spec)
  pub columns_doors_particle_block_from_columns : OneOutcome particle_block_from_columns.ended (λ M 𝓤. particle_block_from_columns.spec)
  -- step_tally
  pub step_tally_fresh : OneOutcome fresh.ended (λ M 𝓤. fresh.spec)
  pub step_tally_total : OneOutcome total.ended (λ M 𝓤. total.spec)
  pub step_tally_added : OneOutcome added.ended (λ M 𝓤. added.spec)
  pub step_tally_counted : OneOutcome counted.ended (λ M 𝓤. counted.spec)
  pub step_tally_count : OneOutcome count.ended (λ M 𝓤. count.spec)
  -- bench_desk
  pub bench_desk_answer : OneOutcome answer.ended (λ M 𝓤. answer.spec)
