use mathlib.Core.Path.{◌∙◌}
use Rattle.gradient_definition.specs.Vectors.{preconditioned_is, copied_is}
use Rattle.gradient_solve.proofs.LaunchLaws.{launch_is}
use Rattle.gradient_solve.proofs.launch.launch.Goals as goal

pub returns : goal.returns
returns c =
    let p = c.requires.sized in
    launch_is _ _ _ _ _ _ _ _ _ _ _ _ _ _ _ _ (preconditioned_is _ _ _ p.z_is _ _ c.precondition.ensures)
    (copied_is _ _ _ p.direction_is _ (c.precondition.auto.z ∙ p.z_is) c.copy.ensures) c.dot_all-rz.ensures c.run-o.ensures
    c.finish.ensures
