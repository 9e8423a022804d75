-- ONE OUTCOME of each call over the C ABI, by the contract that its own theorem cites.
use mathlib.Core.Path.{refl}
use Rattle.law.specs.One.{OneOutcome, past}
use Rattle.law.proofs.One.{plainly, of_parts, of_both}
use Rattle.matrix_row_view.specs.Showing as showing
use Rattle.matrix_building.specs.FromPairs as frompairs
use Rattle.matrix_building.specs.Building as building
use Rattle.matrix_doors.specs.Clearing as clearing
use Rattle.matrix_doors.specs.Multiplying as multiplying
use Rattle.matrix_doors.specs.Pinning as pinning
use Rattle.matrix_doors.specs.PinningMarked as pinningmarked
use Rattle.plan_doors.specs.Planning as planning
use Rattle.factor_doors.specs.Factorizing as factorizing
use Rattle.factor_doors.specs.Solving as direct-solving
use Rattle.gradient_doors.specs.Updating as updating
use Rattle.gradient_doors.specs.Solving as solving
use Rattle.abi_floats.specs.Handed.{handed}
use Rattle.abi_answers.specs.Numbers.{answered, of_numbered, of_told}
use Rattle.abi_calls.specs.Row.{spanned_first, spanned_len, seen_col, placed_slot}
use Rattle.abi_answers.specs.Direct as direct
use Rattle.abi_answers.specs.Told.{places_of}
use Rattle.abi_calls.specs.contracts.bracket_root as bracket-root
use Rattle.abi_calls.specs.contracts.bracket_dot as bracket-dot
use Rattle.abi_calls.specs.contracts.bracket_determinant as bracket-determinant
use Rattle.abi_calls.specs.contracts.bracket_times as bracket-times
use Rattle.abi_calls.specs.contracts.bracket_inverse as bracket-inverse
use Rattle.abi_calls.specs.contracts.row.bracket_row_first as bracket-row-first
use Rattle.abi_calls.specs.contracts.row.bracket_row_len as bracket-row-len
use Rattle.abi_calls.specs.contracts.row.bracket_row_col as bracket-row-col
use Rattle.abi_calls.specs.contracts.row.bracket_row_slot as bracket-row-slot
use Rattle.abi_calls.specs.contracts.matrix.bracket_from_pairs as bracket-from-pairs
use Rattle.abi_calls.specs.contracts.matrix.bracket_pattern_from_pairs as bracket-pattern-from-pairs
use Rattle.abi_calls.specs.contracts.matrix.bracket_block_index as bracket-block-index
use Rattle.abi_calls.specs.contracts.matrix.bracket_diagonal_index as bracket-diagonal-index
use Rattle.abi_calls.specs.contracts.matrix.bracket_clear_values as bracket-clear-values
use Rattle.abi_calls.specs.contracts.matrix.bracket_mul as bracket-mul
use Rattle.abi_calls.specs.contracts.matrix.bracket_make_dirichlet as bracket-make-dirichlet
use Rattle.abi_calls.specs.contracts.matrix.bracket_make_dirichlet_marked as bracket-make-dirichlet-marked
use Rattle.abi_calls.specs.contracts.plan.bracket_plan as bracket-plan
use Rattle.abi_calls.specs.contracts.solver.bracket_factorize as bracket-factorize
use Rattle.abi_calls.specs.contracts.solver.bracket_solve as bracket-solve
use Rattle.abi_calls.specs.contracts.conjugate.bracket_update_preconditioner as bracket-update-preconditioner
use Rattle.abi_calls.specs.contracts.conjugate.bracket_conjugate_gradient as bracket-conjugate-gradient

pub one_bracket_root : OneOutcome bracket-root.ended (λ M 𝓤. bracket-root.spec)
one_bracket_root = plainly bracket-root.ended _ (λ κs a p. of_parts _ _ (λ r. (r, past 1 tt)) refl (λ w. refl))

pub one_bracket_dot : OneOutcome bracket-dot.ended (λ M 𝓤. bracket-dot.spec)
one_bracket_dot = plainly bracket-dot.ended _ (λ κs a p. of_parts _ _ (λ r. (r, past 4 tt)) refl (λ w. refl))

pub one_bracket_determinant : OneOutcome bracket-determinant.ended (λ M 𝓤. bracket-determinant.spec)
one_bracket_determinant = plainly bracket-determinant.ended _ (λ κs a p. of_parts _ _ (λ r. (r, past 4 tt)) refl (λ w. refl))

pub one_bracket_times : OneOutcome bracket-times.ended (λ M 𝓤. bracket-times.spec)
one_bracket_times = plainly bracket-times.ended _ (λ κs a p.
    of_numbered (handed _) (λ o. o.answer) answered _ _ _
    (λ r o. (r, past 6 (o.out, tt))) (λ r. refl) (λ k r. refl) (λ r o. refl) (λ w a. refl))

pub one_bracket_inverse : OneOutcome bracket-inverse.ended (λ M 𝓤. bracket-inverse.spec)
one_bracket_inverse = plainly bracket-inverse.ended _ (λ κs a p.
    of_numbered (handed _) (λ o. o.answer) answered _ _ _
    (λ r o. (r, past 4 (o.out, tt))) (λ r. refl) (λ k r. refl) (λ r o. refl) (λ w a. refl))

pub one_bracket_row_first : OneOutcome bracket-row-first.ended (λ M 𝓤. bracket-row-first.spec)
one_bracket_row_first = plainly bracket-row-first.ended _ (λ κs a p.
    of_told showing.span_door (λ o. o.answer) answered _ _ _ spanned_first _ _
    (λ r o p. (r, past 4 (p, tt))) (λ r p. refl) (λ k r p. refl) (λ r o p. (refl, refl)) (λ w a. refl))

pub one_bracket_row_len : OneOutcome bracket-row-len.ended (λ M 𝓤. bracket-row-len.spec)
one_bracket_row_len = plainly bracket-row-len.ended _ (λ κs a p.
    of_told showing.span_door (λ o. o.answer) answered _ _ _ spanned_len _ _
    (λ r o p. (r, past 4 (p, tt))) (λ r p. refl) (λ k r p. refl) (λ r o p. (refl, refl)) (λ w a. refl))

pub one_bracket_row_col : OneOutcome bracket-row-col.ended (λ M 𝓤. bracket-row-col.spec)
one_bracket_row_col = plainly bracket-row-col.ended _ (λ κs a p.
    of_told (showing.column_door _) (λ o. o.answer) answered _ _ _ seen_col _ _
    (λ r o p. (r, past 5 (p, tt))) (λ r p. refl) (λ k r p. refl) (λ r o p. (refl, refl)) (λ w a. refl))

pub one_bracket_row_slot : OneOutcome bracket-row-slot.ended (λ M 𝓤. bracket-row-slot.spec)
one_bracket_row_slot = plainly bracket-row-slot.ended _ (λ κs a p.
    of_told (showing.slot_door _) (λ o. o.answer) answered _ _ _ placed_slot _ _
    (λ r o p. (r, past 5 (p, tt))) (λ r p. refl) (λ k r p. refl) (λ r o p. (refl, refl)) (λ w a. refl))

pub one_bracket_from_pairs : OneOutcome bracket-from-pairs.ended (λ M 𝓤. bracket-from-pairs.spec)
unfolding frompairs.work building.work
one_bracket_from_pairs = plainly bracket-from-pairs.ended _ (λ κs a p.
    of_numbered frompairs.door (λ o. o.pattern.answer) answered _ _ _
    (λ r o. (r, past 3 (o.pattern.row_offsets, (o.pattern.cols, (o.pattern.diagonal, (o.blocks, (o.pattern.work, tt)))))))
    (λ r. refl) (λ k r. refl) (λ r o. refl) (λ w a. refl))

pub one_bracket_pattern_from_pairs : OneOutcome bracket-pattern-from-pairs.ended (λ M 𝓤. bracket-pattern-from-pairs.spec)
unfolding building.work
one_bracket_pattern_from_pairs = plainly bracket-pattern-from-pairs.ended _ (λ κs a p.
    of_numbered building.door (λ o. o.answer) answered _ _ _
    (λ r o. (r, past 3 (o.row_offsets, (o.cols, (o.diagonal, (o.work, tt)))))) (λ r. refl) (λ k r. refl) (λ r o. refl) (λ w a. refl))

pub one_bracket_block_index : OneOutcome bracket-block-index.ended (λ M 𝓤. bracket-block-index.spec)
one_bracket_block_index = plainly bracket-block-index.ended _ (λ κs a p. of_both _ _ _ _ (λ r s. (r, past 6 (s, tt))) refl refl (λ w. refl))

pub one_bracket_diagonal_index : OneOutcome bracket-diagonal-index.ended (λ M 𝓤. bracket-diagonal-index.spec)
one_bracket_diagonal_index = plainly bracket-diagonal-index.ended _ (λ κs a p. of_both _ _ _ _ (λ r s. (r, past 5 (s, tt))) refl refl (λ w. refl))

pub one_bracket_clear_values : OneOutcome bracket-clear-values.ended (λ M 𝓤. bracket-clear-values.spec)
one_bracket_clear_values = plainly bracket-clear-values.ended _ (λ κs a p.
    of_numbered clearing.door (λ o. o.answer) answered _ _ _
    (λ r o. (r, past 4 (o.blocks, tt))) (λ r. refl) (λ k r. refl) (λ r o. refl) (λ w a. refl))

pub one_bracket_mul : OneOutcome bracket-mul.ended (λ M 𝓤. bracket-mul.spec)
one_bracket_mul = plainly bracket-mul.ended _ (λ κs a p.
    of_numbered multiplying.door (λ o. o.answer) answered _ _ _
    (λ r o. (r, past 6 (o.out, tt))) (λ r. refl) (λ k r. refl) (λ r o. refl) (λ w a. refl))

pub one_bracket_make_dirichlet : OneOutcome bracket-make-dirichlet.ended (λ M 𝓤. bracket-make-dirichlet.spec)
one_bracket_make_dirichlet = plainly bracket-make-dirichlet.ended _ (λ κs a p.
    of_numbered pinning.door (λ o. o.answer) answered _ _ _
    (λ r o. (r, past 5 (o.blocks, tt))) (λ r. refl) (λ k r. refl) (λ r o. refl) (λ w a. refl))

pub one_bracket_make_dirichlet_marked : OneOutcome bracket-make-dirichlet-marked.ended (λ M 𝓤. bracket-make-dirichlet-marked.spec)
one_bracket_make_dirichlet_marked = plainly bracket-make-dirichlet-marked.ended _ (λ κs a p.
    of_numbered pinningmarked.door (λ o. o.answer) answered _ _ _
    (λ r o. (r, past 5 (o.blocks, tt))) (λ r. refl) (λ k r. refl) (λ r o. refl) (λ w a. refl))

pub one_bracket_plan : OneOutcome bracket-plan.ended (λ M 𝓤. bracket-plan.spec)
unfolding planning.work planning.refuse
one_bracket_plan = plainly bracket-plan.ended _ (λ κs a p.
    of_numbered planning.door (λ o. o.answer) answered _ _ _
    (λ r o. (
      r,
      past 4 (
        o.plan.order,
        (
          o.plan.inverse,
          (
            o.plan.first,
            (
              o.plan.rows,
              (o.work.degrees, (o.work.placed, (o.work.mark, (o.work.level, (o.work.queue, tt))))),
            ),
          ),
        ),
      ),
    )) (λ r. refl) (λ k r. refl) (λ r o. refl) (λ w a. refl))

pub one_bracket_factorize : OneOutcome bracket-factorize.ended (λ M 𝓤. bracket-factorize.spec)
unfolding factorizing.work
one_bracket_factorize = plainly bracket-factorize.ended _ (λ κs a p.
    of_told factorizing.door (λ o. o.answer) answered _ _ _ direct.places_of _ _
    (λ r o p. (r, past 9 (o.values, (p.how, (p.row, (p.pivot, tt)))))) (λ r p. refl) (λ k r p. refl)
    (λ r o p. (refl, refl)) (λ w a. refl))

pub one_bracket_solve : OneOutcome bracket-solve.ended (λ M 𝓤. bracket-solve.spec)
unfolding direct-solving.work
one_bracket_solve = plainly bracket-solve.ended _ (λ κs a p.
    of_numbered direct-solving.door (λ o. o.answer) answered _ _ _
    (λ r o. (r, past 7 (o.x, (o.scratch, tt)))) (λ r. refl) (λ k r. refl) (λ r o. refl) (λ w a. refl))

pub one_bracket_update_preconditioner : OneOutcome bracket-update-preconditioner.ended (λ M 𝓤. bracket-update-preconditioner.spec)
one_bracket_update_preconditioner = plainly bracket-update-preconditioner.ended _ (λ κs a p.
    of_numbered updating.door (λ o. o.answer) answered _ _ _
    (λ r o. (r, past 5 (o.preconditioner, tt))) (λ r. refl) (λ k r. refl) (λ r o. refl) (λ w a. refl))

pub one_bracket_conjugate_gradient : OneOutcome bracket-conjugate-gradient.ended (λ M 𝓤. bracket-conjugate-gradient.spec)
unfolding solving.work
one_bracket_conjugate_gradient = plainly bracket-conjugate-gradient.ended _ (λ κs a p.
    of_told solving.door (λ o. o.answer) answered _ _ _ places_of _ _
    (λ r o p. (r, past 9 (o.x, (o.residual, (o.direction, (o.a_direction, (o.z, (p.how, (p.count, (p.residual_squared, (p.denominator, tt)))))))))))
    (λ r p. refl) (λ k r p. refl)
    (λ r o p. (refl, refl)) (λ w a. refl))
