-- ONE OUTCOME of each public call, by the contract that its own theorem cites.
use mathlib.Core.Path.{refl}
use Rattle.law.specs.One.{OneOutcome, past}
use Rattle.law.proofs.One.{plainly, of_door}
use Rattle.gradient_doors.specs.Updating as updating
use Rattle.gradient_doors.specs.Solving as solving
use Rattle.gradient_doors.specs.contracts.update_preconditioner as update-preconditioner
use Rattle.gradient_doors.specs.contracts.solve as solve

pub one_update_preconditioner : OneOutcome update-preconditioner.ended (λ M 𝓤. update-preconditioner.spec)
one_update_preconditioner = plainly update-preconditioner.ended _ (λ κs a p.
    of_door updating.door _ _ (λ o. (o.answer, past 2 (o.preconditioner, tt))) refl (λ k. refl) (λ w. refl))

pub one_solve : OneOutcome solve.ended (λ M 𝓤. solve.spec)
unfolding solving.work
one_solve = plainly solve.ended _ (λ κs a p.
    of_door solving.door _ _ (λ o. (o.answer, past 5 (o.x, (o.residual, (o.direction, (o.a_direction, (o.z, tt))))))) refl (λ k. refl) (λ w. refl))
