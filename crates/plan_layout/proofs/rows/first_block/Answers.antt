use Rattle.plan_layout.specs.Ordering.{row_within, walk_started}
use Rattle.plan_layout.proofs.rows.first_block.Goals as goal

pub row-requires : goal.row-requires
row-requires c = rw c.wide-v.ensures.same (c.args.ordered.now.listed.below c.args.i c.requires)

pub leftmost-requires : goal.leftmost-requires
leftmost-requires c = rw (c.row.ensures, c.wide-v.ensures.same) (row_within c.args.ordered.now c.args.i c.requires)

pub returns : goal.returns
returns c = walk_started c.args.ordered.now c.args.i c.requires _ (rw (c.row.ensures, c.wide-v.ensures.same) at c.leftmost.ensures)
