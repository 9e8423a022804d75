use Rattle.matrix_values.proofs.Zeros.{zeros}
use Rattle.matrix_values.proofs.inner.clear_values.Goals as goal

pub returns : goal.returns
returns c = rw (c.fill.ensures.after (λ y e. e)) (zeros _ _ c.requires)
