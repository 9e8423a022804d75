-- ONE OUTCOME of each public call, by the contract that its own theorem cites.
use mathlib.Core.Path.{refl}
use Rattle.law.specs.One.{OneOutcome, past}
use Rattle.law.proofs.One.{plainly, of_door}
use Rattle.factor_doors.specs.Factorizing as factorizing
use Rattle.factor_doors.specs.Solving as solving
use Rattle.factor_doors.specs.contracts.factorize as factorize
use Rattle.factor_doors.specs.contracts.solve as solve

pub one_factorize : OneOutcome factorize.ended (λ M 𝓤. factorize.spec)
unfolding factorizing.work
one_factorize = plainly factorize.ended _ (λ κs a p. of_door factorizing.door _ _ (λ o. (o.answer, past 3 (o.values, tt))) refl (λ k. refl) (λ w. refl))

pub one_solve : OneOutcome solve.ended (λ M 𝓤. solve.spec)
unfolding solving.work
one_solve = plainly solve.ended _ (λ κs a p. of_door solving.door _ _ (λ o. (o.answer, past 4 (o.x, (o.scratch, tt)))) refl (λ k. refl) (λ w. refl))
