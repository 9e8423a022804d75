-- Cholesky's factor and the substitutions' x are what the calls leave in the caller's lists, and nothing else is so. Assumes nothing.
use Rattle.factor_cholesky.specs.Factorize as factorize
use Rattle.factor_cholesky.specs.StepMatrix as step
use Rattle.factor_cholesky.specs.Solve as solve
use Rattle.factor_cholesky.proofs.OfFactorize as factor
use Rattle.factor_cholesky.proofs.OfStepMatrix as steps
use Rattle.factor_cholesky.proofs.OfSolve as solved

-- ---- `factorize`

pub leaves_cholesky : factorize.LeavesCholesky
leaves_cholesky i o h = factor.leaves i o h

pub factor_answered_exactly : factorize.AnsweredExactly
factor_answered_exactly i o h = (factor.answers i o h, factor.accepted i o h)

pub one_factor : factorize.OneFactor
one_factor i o h a l g w = rw (factor.works i o h a) (factor.one_factor i a l g w)

pub one_list : factorize.OneList
one_list i o h a v g long rest w = rw (factor.works i o h a) (factor.one_list i a v g long rest w)

-- ---- `factorize_step_matrix`

pub step_leaves_cholesky : step.LeavesCholesky
step_leaves_cholesky i o h = steps.leaves i o h

pub step_answered_exactly : step.AnsweredExactly
step_answered_exactly i o h = steps.answers i o h

pub step_one_factor : step.OneFactor
step_one_factor i o h a u l g w = steps.one_factor i o h a u l g w

-- ---- `solve`

pub gives_substituted : solve.GivesSubstituted
gives_substituted i o h e =
    let a = solved.accepted i o h e in
    (solved.ys i a, (solved.xs i a, rw (solved.works i o h a) (solved.leaves_work i a)))

pub solve_answered_exactly : solve.AnsweredExactly
solve_answered_exactly i o h = (solved.answers i o h, solved.accepted i o h, solved.untouched i o h)

pub one_solution : solve.OneSolution
one_solution i o h a y z w k l = rw (solved.works i o h a) (solved.one_solution i a y z w k l)
