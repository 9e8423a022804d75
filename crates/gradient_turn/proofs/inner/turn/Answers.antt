use Rattle.gradient_definition.specs.Vectors.{product_is, preconditioned_is, advanced_is, retreated_is, redirected_is}
use Rattle.gradient_turn.proofs.Laws.{turn_bent, turn_done, turn_onward}
use Rattle.gradient_turn.proofs.inner.turn.Goals as goal

pub returns-then-norm-threshold : goal.returns-then-norm-threshold
returns-then-norm-threshold c =
    let p = c.requires.sized in
    turn_done _ _ _ _ _ _ _ (product_is _ _ _ p.a_direction_is _ _ _ _ c.mul.ensures) c.dot_all-denominator.ensures
    _ _ _ c.if-denominator.true (advanced_is _ _ _ p.x_is _ _ c.advance.ensures)
    (retreated_is _ _ _ p.residual_is _ _ c.retreat.ensures) c.dot_all-norm.ensures c.if-norm-threshold.true

pub returns-then-denominator : goal.returns-then-denominator
returns-then-denominator c =
    let p = c.requires.sized in
    turn_onward _ _ _ _ _ _ _ (product_is _ _ _ p.a_direction_is _ _ _ _ c.mul.ensures) c.dot_all-denominator.ensures
    _ _ _ c.if-denominator.true (advanced_is _ _ _ p.x_is _ _ c.advance.ensures)
    (retreated_is _ _ _ p.residual_is _ _ c.retreat.ensures) c.dot_all-norm.ensures
    _ _ _ c.if-norm-threshold.false (preconditioned_is _ _ _ p.z_is _ _ c.precondition.ensures) c.dot_all-next.ensures
    (redirected_is _ _ _ p.direction_is _ _ c.redirect.ensures)

pub returns : goal.returns
returns c =
    turn_bent _ _ _ _ _ _ _ (product_is _ _ _ c.requires.sized.a_direction_is _ _ _ _ c.mul.ensures) c.dot_all-denominator.ensures
    c.if-denominator.false
