use Rattle.gradient_doors.specs.Solving.{ready}
use Rattle.gradient_doors.proofs.solve.Goals as goal

pub solve-requires : goal.solve-requires
solve-requires c = ready _ c.in_ok-solving.ensures
