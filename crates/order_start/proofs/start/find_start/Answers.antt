use mathlib.Core.Path.{◌∙◌}
use Rattle.order_start.proofs.Settling.{choose_is}
use Rattle.order_start.proofs.start.find_start.Goals as goal

pub returns-clause-value : goal.returns-clause-value
returns-clause-value c =
    let seen = c.look-seen.ensures in
    c.settle_start.ensures.value ∙ choose_is c.args.ranked.now.graph c.args.mark.now _ _ _ c.first_free-s.ensures.value seen.far_value seen.deep_value
