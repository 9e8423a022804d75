use Rattle.factor_doors.specs.Factorizing.{ready}
use Rattle.factor_doors.proofs.factorize.Goals as goal

pub factorize-requires : goal.factorize-requires
factorize-requires c = ready _ c.in_ok-factorizing.ensures
