use Rattle.step_solve.specs.Stepping.{ready}
use Rattle.step_solve.proofs.inner.solve_step.Goals as goal

pub route-requires : goal.route-requires
route-requires c = ready _ c.in_ok-stepping.ensures
