-- ONE OUTCOME of each public call, by the contract that its own theorem cites.
use mathlib.Core.Path.{refl}
use Rattle.law.specs.One.{OneOutcome, past}
use Rattle.law.proofs.One.{plainly, of_door}
use Rattle.plan_doors.specs.Planning as planning
use Rattle.plan_doors.specs.contracts.plan as plan

pub one_plan : OneOutcome plan.ended (λ M 𝓤. plan.spec)
unfolding planning.work planning.refuse
one_plan = plainly plan.ended _ (λ κs a p.
    of_door planning.door _ _ (λ o. (
      o.answer,
      past 1 (
        o.plan.order,
        (
          o.plan.inverse,
          (
            o.plan.first,
            (
              o.plan.rows,
              (o.work.degrees, (o.work.placed, (o.work.mark, (o.work.level, (o.work.queue, tt))))),
            ),
          ),
        ),
      ),
    ))
    refl (λ k. refl) (λ w. refl))
