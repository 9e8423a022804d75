use borrow.Author.Tests.{le-leb, lt-leb}
use Rattle.step_solve.specs.Marking.{factored, unfactored}
use Rattle.step_solve.proofs.front.mark.Goals as goal

pub factorize-how-requires : goal.factorize-how-requires
factorize-how-requires c =
    c.requires.planned (le-leb _ _ c.if-pattern-max_dense_dofs.true)

pub returns-then-pattern-max_dense_dofs : goal.returns-then-pattern-max_dense_dofs
returns-then-pattern-max_dense_dofs c =
    factored _ _ _ _ _ (le-leb _ _ c.if-pattern-max_dense_dofs.true) c.factorize-how.ensures c.settle.ensures

pub returns : goal.returns
returns c =
    unfactored _ _ (lt-leb _ _ c.if-pattern-max_dense_dofs.false) c.update_preconditioner.ensures
