use Rattle.std.proofs.Common.{sym, ◌∙◌, leb-true}
use Rattle.law.proofs.Refusals.{all_pass}
use Rattle.step_routes.specs.Dense.{roomy}
use Rattle.step_entries.specs.Entries.{has_names}
use Rattle.step_response.proofs.refuse.responding.Goals as goal

pub all_below-requires : goal.all_below-requires
all_below-requires c = has_names _ _ _ _ _ (sym c.has_room.ensures ∙ (all_pass _ c.in_ok-ensure-4.ensures).0)

pub later-requires : goal.later-requires
later-requires c =
    roomy _ _ _ _ _ _ _ _ _ _ _ _ _ _ _ _ _ _ _ (leb-true _ _ (all_pass _ c.in_ok-ensure.ensures).0)
    (sym c.room.ensures ∙ (all_pass _ c.in_ok-ensure-3.ensures).0)
