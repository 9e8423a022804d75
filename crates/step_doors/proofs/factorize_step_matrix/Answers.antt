use Rattle.step_solve.specs.Marking.{ready}
use Rattle.step_doors.proofs.factorize_step_matrix.Goals as goal

pub mark-requires : goal.mark-requires
mark-requires c = ready _ c.in_ok-marking.ensures
