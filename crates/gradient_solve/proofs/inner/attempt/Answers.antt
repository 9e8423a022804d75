use Rattle.gradient_definition.specs.Vectors.{zeros_are}
use Rattle.gradient_solve.proofs.Laws.{solve_zero}
use Rattle.gradient_solve.proofs.inner.attempt.Goals as goal

pub returns-then-b2 : goal.returns-then-b2
returns-then-b2 c =
    solve_zero _ _ _ _ _ _ _ _ c.dot_all-b2.ensures c.if-b2.true _ (zeros_are _ _ _ c.requires.sized.x_is c.clear.ensures)
