use Rattle.factor_doors.specs.Factorizing.{whole_is}
use Rattle.factor_doors.proofs.front.factorize.Goals as goal

pub returns : goal.returns
returns c = whole_is _ _ _ _ c.factor_len-len.ensures c.factorize_matrix.ensures
