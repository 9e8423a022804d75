use Rattle.std.proofs.Common.{sym, ◌∙◌, leb-true}
use Rattle.law.proofs.Refusals.{all_pass}
use Rattle.step_routes.specs.Dense.{roomy}
use Rattle.step_solve.proofs.refuse.stepping.Goals as goal

pub later-requires : goal.later-requires
later-requires c =
    roomy _ _ _ _ _ _ _ _ _ _ _ _ _ _ _ _ _ _ _ (leb-true _ _ (all_pass _ c.in_ok-ensure.ensures).0)
    (sym c.room.ensures ∙ (all_pass _ c.in_ok-ensure-2.ensures).0)
