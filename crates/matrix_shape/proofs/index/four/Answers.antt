use native.Mathlib.Omega.{arith}
use Rattle.matrix_shape.specs.Halving.{left, room, four_is}
use Rattle.matrix_shape.proofs.index.four.Goals as goal

pub two-requires : goal.two-requires
unfolding left
two-requires c = (omega arith, omega (arith, room _ _ _ _ 2 _ c.two-next.ensures, c.requires.1))

pub returns : goal.returns
unfolding left
returns c = four_is _ _ _ _ _ _ c.two-next.ensures c.two.ensures
