use Rattle.gradient_doors.specs.Updating.{ready}
use Rattle.gradient_doors.proofs.update_preconditioner.Goals as goal

pub update_preconditioner-requires : goal.update_preconditioner-requires
update_preconditioner-requires c = let r = ready _ c.in_ok-updating.ensures in (record { slots = r.slots; n_in_bounds = r.room })
