use mathlib.Core.Path.{◌∙◌}
use Rattle.gradient_definition.specs.Vectors.{product_is, lacking_is}
use Rattle.gradient_solve.proofs.LaunchLaws.{fresh_is}
use Rattle.gradient_solve.proofs.launch.fresh.Goals as goal

pub returns : goal.returns
returns c =
    let e = c.requires.n_in_bounds.2 in
    fresh_is _ _ _ _ _ _ (product_is _ _ _ e _ _ _ _ c.mul.ensures) (lacking_is _ _ _ (c.mul.auto.out ∙ e) _ c.lack.ensures)
