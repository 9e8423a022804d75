use Rattle.factor_doors.specs.Solving.{whole_is}
use Rattle.factor_doors.proofs.front.solve.Goals as goal

pub returns : goal.returns
returns c = whole_is _ _ _ c.solve.ensures
