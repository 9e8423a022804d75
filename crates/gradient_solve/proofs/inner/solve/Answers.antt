use mathlib.Core.Path.{◌∙◌}
use Rattle.gradient_definition.specs.Vectors.{zeros_are}
use Rattle.gradient_solve.proofs.inner.solve.Goals as goal

pub returns : goal.returns
returns c =
    let p = c.requires.sized in
    let e = c.attempt-o.auto in (
      c.attempt-o.ensures,
      zeros_are _ _ _ (e.residual ∙ p.residual_is) c.clear.ensures,
      zeros_are _ _ _ (e.direction ∙ p.direction_is) c.clear-2.ensures,
      zeros_are _ _ _ (e.a_direction ∙ p.a_direction_is) c.clear-3.ensures,
      zeros_are _ _ _ (e.z ∙ p.z_is) c.clear-4.ensures,
    )
