use native.Mathlib.Omega.{arith}
use lib.ListN.{length-set}
use Rattle.bench_print.proofs.Lists.{item_room, item_put}
use Rattle.bench_print.proofs.inner.put_item.Goals as goal

pub bounds-out-at : goal.bounds-out-at
bounds-out-at c = let room = item_room _ _ _ c.requires in omega arith

pub put_number-requires : goal.put_number-requires
put_number-requires c = simp length-set (item_room _ _ _ c.requires)

pub returns : goal.returns
returns c = item_put _ _ _ _ _ c.put_number.ensures
