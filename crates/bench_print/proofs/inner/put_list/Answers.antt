use Rattle.std.proofs.Common.{refl, ◌∙◌, arith}
use Rattle.law.specs.Put.{put_long}
use Rattle.bench_print.proofs.Lists.{items_none, items_turn, items_room, items_end}
use Rattle.bench_print.proofs.inner.put_list.Goals as goal

pub loop-x-init : goal.loop-x-init
loop-x-init c = (refl, items_none _ _ _)

pub put_item-to-requires : goal.put_item-to-requires
put_item-to-requires c =
    items_room _ _ _ _ c.loop-x.x-index _ c.requires c.loop-x.invariant.0 c.loop-x-test.true c.loop-x.invariant.1

pub loop-x-preserved : goal.loop-x-preserved
loop-x-preserved c = (
  put_long _ _ _ _ _ c.put_item-to.ensures ∙ c.loop-x.invariant.0,
  items_turn _ _ _ _ _ c.loop-x.x-index _ _ c.loop-x.invariant.1 c.put_item-to.ensures,
)

pub returns : goal.returns
returns c = items_end _ _ _ _ c.loop-x.x-index _ (omega arith) c.loop-x.invariant.1
