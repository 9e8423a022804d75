use native.Mathlib.Omega.{arith}
use Rattle.matrix_shape.specs.Halving.{left, room, two_is}
use Rattle.matrix_shape.proofs.index.two.Goals as goal

pub one-requires : goal.one-requires
unfolding left
one-requires c = (omega arith, omega (arith, room _ _ _ _ 1 _ c.one-next.ensures, c.requires.1))

pub returns : goal.returns
returns c = two_is _ _ _ _ _ _ c.one-next.ensures c.one.ensures
