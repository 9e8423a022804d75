use native.Mathlib.Omega.{arith}
use Rattle.matrix_shape.specs.Halving.{near_is}
use Rattle.matrix_shape.proofs.index.near.Goals as goal

pub returns-then-size-le4 : goal.returns-then-size-le4
returns-then-size-le4 c = near_is _ _ _ _ _ (omega arith) (omega arith) c.two.ensures
