use mathlib.Core.Path.{◌∙◌}
use Rattle.gradient_definition.specs.Vectors.{product_is, scaled_is, zeros_are}
use Rattle.gradient_finish.proofs.Laws.{rescale_zero, rescale_some, rescale_all}
use Rattle.gradient_finish.proofs.finish.rescale.Goals as goal

pub returns-then-denominator : goal.returns-then-denominator
returns-then-denominator c =
    let p = c.requires.n_in_bounds in
    zeros_are _ _ _ p.1 c.clear.ensures ∙ rescale_zero _ _ _ _ _ _ (product_is _ _ _ p.2 _ _ _ _ c.mul.ensures) c.dot_all-denominator.ensures
    c.if-denominator.true

pub returns-then-alpha : goal.returns-then-alpha
returns-then-alpha c =
    let p = c.requires.n_in_bounds in
    scaled_is _ _ _ p.1 _ c.scale_all.ensures
    ∙ rescale_some _ _ _ _ _ _ (product_is _ _ _ p.2 _ _ _ _ c.mul.ensures) c.dot_all-denominator.ensures _ _ c.if-denominator.false
    c.dot_all-numerator.ensures c.clamp-alpha.ensures.value c.if-alpha.true

pub returns-else-alpha : goal.returns-else-alpha
returns-else-alpha c =
    rescale_all _ _ _ _ _ _ (product_is _ _ _ c.requires.n_in_bounds.2 _ _ _ _ c.mul.ensures) c.dot_all-denominator.ensures _ _ c.if-denominator.false
    c.dot_all-numerator.ensures c.clamp-alpha.ensures.value c.if-alpha.false
