use Rattle.matrix_shape.specs.Halving.{one_up, one_low}
use Rattle.matrix_shape.proofs.index.one.Goals as goal

pub returns-then-cols-mid : goal.returns-then-cols-mid
returns-then-cols-mid c = one_up _ _ _ _ c.if-cols-mid.true

pub returns : goal.returns
returns c = one_low _ _ _ _ c.if-cols-mid.false
