-- ONE OUTCOME of each call over the C ABI, by the contract that its own theorem cites.
use mathlib.Core.Path.{refl}
use Rattle.law.specs.One.{OneOutcome, past}
use Rattle.law.proofs.One.{plainly}
use Rattle.step_solve.specs.Marking as marking
use Rattle.step_solve.specs.Stepping as stepping
use Rattle.step_response.specs.Responding as responding
use Rattle.step_counts.specs.Counting.{after_step, after_response}
use Rattle.step_doors.proofs.Outcome.{marked, stepped, responded}
use Rattle.abi_answers.specs.Numbers.{answered, of_told}
use Rattle.abi_step_answers.specs.Counts.{of_tallied}
use Rattle.abi_step_answers.specs.Marks as marks
use Rattle.abi_step_answers.specs.Steps as steps
use Rattle.abi_step_answers.specs.Responses as responses
use Rattle.abi_step_calls.specs.contracts.marking.bracket_factorize_step_matrix as bracket-factorize-step-matrix
use Rattle.abi_step_calls.specs.contracts.stepping.bracket_solve_step as bracket-solve-step
use Rattle.abi_step_calls.specs.contracts.responding.bracket_response_into as bracket-response-into

pub one_bracket_factorize_step_matrix : OneOutcome bracket-factorize-step-matrix.ended (λ M 𝓤. bracket-factorize-step-matrix.spec)
one_bracket_factorize_step_matrix = plainly bracket-factorize-step-matrix.ended _ (λ κs a p.
    of_told marking.door (λ o. o.answer) answered _ _ _ marks.places_of _ _
    (λ r o p. (r, past 10 (o.values, (o.preconditioner, (p.how, (p.row, (p.pivot, tt))))))) (λ r p. marked _) (λ k r p. refl)
    (λ r o p. (refl, refl)) (λ w a. refl))

pub one_bracket_solve_step : OneOutcome bracket-solve-step.ended (λ M 𝓤. bracket-solve-step.spec)
one_bracket_solve_step = plainly bracket-solve-step.ended _ (λ κs a p.
    of_tallied stepping.door (λ o. o.answer) answered steps.places_of after_step _ _ _ _ _ _ _
    (λ r o p c. (
      r,
      past 16 (
        o.x,
        (
          o.scratch,
          (
            o.residual,
            (
              o.direction,
              (
                o.a_direction,
                (
                  o.z,
                  (c, (p.how, (p.count, (p.residual_squared, (p.denominator, tt))))),
                ),
              ),
            ),
          ),
        ),
      ),
    )) (λ r p c. stepped _) (λ k r p c. refl)
    (λ r o p c. (refl, refl, refl)) (λ w a. refl))

pub one_bracket_response_into : OneOutcome bracket-response-into.ended (λ M 𝓤. bracket-response-into.spec)
one_bracket_response_into = plainly bracket-response-into.ended _ (λ κs a p.
    of_tallied responding.door (λ o. o.answer) answered responses.gained_of after_response _ _ _ _ _ _ _
    (λ r o p c. (
      r,
      past 19 (
        o.out,
        (
          o.rhs,
          (
            o.scratch,
            (
              o.residual,
              (
                o.direction,
                (
                  o.a_direction,
                  (
                    o.z,
                    (c, (p.gain, (p.told.how, (p.told.count, (p.told.residual_squared, (p.told.denominator, tt)))))),
                  ),
                ),
              ),
            ),
          ),
        ),
      ),
    )) (λ r p c. responded _) (λ k r p c. refl)
    (λ r o p c. (refl, refl, refl)) (λ w a. refl))
