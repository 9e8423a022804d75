use borrow.Author.Rules.{rules}
use Rattle.law.proofs.Loop.{over_none, over_turn}
use Rattle.matrix_values.specs.Product.{row_sum}
use Rattle.matrix_values.proofs.inner.row_sum.Goals as goal

pub loop-k-init : goal.loop-k-init
unfolding row_sum
loop-k-init c = (search rules, search rules, over_none _ _ _)

pub add_slot-next-requires : goal.add_slot-next-requires
add_slot-next-requires c =
    let reach = c.requires.row_reach in
    (search rules, search rules, reach.parts c.loop-k.k c.loop-k.invariant.0 (search rules))

pub loop-k-preserved : goal.loop-k-preserved
unfolding row_sum
loop-k-preserved c =
    (search rules, search rules, over_turn _ _ _ _ _ _ c.loop-k.invariant.0 c.loop-k.invariant.2 c.add_slot-next.ensures)
