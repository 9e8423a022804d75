-- ONE OUTCOME of each call over the C ABI, by the contract that its own theorem cites.
use mathlib.Core.Path.{refl}
use Rattle.law.specs.One.{OneOutcome, past}
use Rattle.law.proofs.One.{plainly}
use Rattle.columns_table.specs.Clearing as clearing
use Rattle.columns_table.specs.Loading as loading
use Rattle.columns_make.specs.Making as making
use Rattle.columns_combine.specs.Combining as combining
use Rattle.columns_block.specs.Blocking as blocking
use Rattle.columns_doors.proofs.Outcome.{loaded, blocked}
use Rattle.abi_answers.specs.Numbers.{answered, of_told}
use Rattle.abi_columns_answers.specs.Loads as loads
use Rattle.abi_columns_answers.specs.Computes as computes
use Rattle.abi_columns_answers.specs.Combines as combines
use Rattle.abi_columns_answers.specs.Blocks as blocks
use Rattle.abi_columns_calls.specs.contracts.loading.bracket_clear_columns as bracket-clear-columns
use Rattle.abi_columns_calls.specs.contracts.loading.bracket_load_particle as bracket-load-particle
use Rattle.abi_columns_calls.specs.contracts.computing.bracket_compute_columns as bracket-compute-columns
use Rattle.abi_columns_calls.specs.contracts.combining.bracket_response_from_columns as bracket-response-from-columns
use Rattle.abi_columns_calls.specs.contracts.combining.bracket_particle_block_from_columns as bracket-particle-block-from-columns

pub one_bracket_clear_columns : OneOutcome bracket-clear-columns.ended (λ M 𝓤. bracket-clear-columns.spec)
one_bracket_clear_columns = plainly bracket-clear-columns.ended _ (λ κs a p.
    of_told clearing.door (λ o. o.answer) answered _ _ _ loads.loaded_after _ _
    (λ r o p. (r, past 1 (o.column_of, (p, tt)))) (λ r p. refl) (λ k r p. refl) (λ r o p. (refl, refl)) (λ w a. refl))

pub one_bracket_load_particle : OneOutcome bracket-load-particle.ended (λ M 𝓤. bracket-load-particle.spec)
one_bracket_load_particle = plainly bracket-load-particle.ended _ (λ κs a p.
    of_told loading.door (λ o. o.answer) answered _ _ _ loads.loaded_after _ _
    (λ r o p. (r, past 4 (o.column_of, (p, tt)))) (λ r p. loaded _) (λ k r p. refl) (λ r o p. (refl, refl)) (λ w a. refl))

pub one_bracket_compute_columns : OneOutcome bracket-compute-columns.ended (λ M 𝓤. bracket-compute-columns.spec)
unfolding making.work
one_bracket_compute_columns = plainly bracket-compute-columns.ended _ (λ κs a p.
    of_told making.door computes.reckoned computes.reckoned_number _ _ _ computes.numbers_of _ _
    (λ r o p. (
      r,
      past 18 (
        o.columns,
        (
          o.rhs,
          (
            o.scratch,
            (
              o.residual,
              (
                o.direction,
                (
                  o.a_direction,
                  (
                    o.z,
                    (p.counts, (p.ended, tt)),
                  ),
                ),
              ),
            ),
          ),
        ),
      ),
    )) (λ r p. refl) (λ k r p. refl) (λ r o p. (refl, refl)) (λ w a. refl))

pub one_bracket_response_from_columns : OneOutcome bracket-response-from-columns.ended (λ M 𝓤. bracket-response-from-columns.spec)
unfolding combining.work
one_bracket_response_from_columns = plainly bracket-response-from-columns.ended _ (λ κs a p.
    of_told combining.door (λ o. o.answer) answered _ _ _ combines.gained_of _ _
    (λ r o p. (r, past 8 (o.out, (p.gain, (p.how, tt))))) (λ r p. refl) (λ k r p. refl) (λ r o p. (refl, refl)) (λ w a. refl))

pub one_bracket_particle_block_from_columns : OneOutcome bracket-particle-block-from-columns.ended (λ M 𝓤. bracket-particle-block-from-columns.spec)
one_bracket_particle_block_from_columns = plainly bracket-particle-block-from-columns.ended _ (λ κs a p.
    of_told blocking.door (λ o. o.answer) answered _ _ _ blocks.shown_of _ _
    (λ r o p. (r, past 6 (o.out, (p.how, (p.block, tt))))) (λ r p. blocked _) (λ k r p. refl) (λ r o p. (refl, refl)) (λ w a. refl))
