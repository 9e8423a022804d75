use Rattle.std.proofs.Common.{sym, ◌∙◌, leb-true}
use Rattle.law.proofs.Refusals.{all_pass}
use Rattle.step_routes.specs.Dense.{when_laid}
use Rattle.step_solve.proofs.refuse.marking.Goals as goal

pub structure-requires : goal.structure-requires
structure-requires c =
    let few = leb-true _ _ (all_pass _ c.in_ok-ensure.ensures).0 in
    record {
      few = few;
      room = sym c.has_room.ensures ∙ (all_pass _ c.in_ok-ensure-2.ensures).0;
      laid = when_laid _ _ _ _ _ _ _ few (sym c.plan_held.ensures ∙ (all_pass _ c.in_ok-ensure-4.ensures).0);
    }
