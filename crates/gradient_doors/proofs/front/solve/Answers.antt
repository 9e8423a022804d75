use Rattle.gradient_doors.specs.Solving.{whole_is}
use Rattle.gradient_doors.proofs.front.solve.Goals as goal

pub returns : goal.returns
returns c = whole_is _ _ _ _ _ _ _ c.solve.ensures
