use Rattle.matrix_shape.specs.Formed.{starts_ok}
use Rattle.matrix_test.proofs.formed.starts_ok.Goals as goal

pub returns : goal.returns
unfolding starts_ok
returns c = rw (c.rises.ensures, c.wide.ensures.same)
