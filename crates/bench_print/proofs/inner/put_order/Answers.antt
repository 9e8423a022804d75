use mathlib.Core.List.{◌++◌}
use Rattle.law.specs.Bytes.{bytes}
use Rattle.law.specs.Put.{put_both, room_first, room_second}
use Rattle.bench_print.specs.Lines.{listed, order_line}
use Rattle.bench_print.proofs.inner.put_order.Goals as goal

pub put_bytes-a-requires : goal.put_bytes-a-requires
unfolding order_line bytes
put_bytes-a-requires c = room_first (bytes "order") (listed c.args.order.now ++ bytes "\n") _ _ c.requires

pub put_list-b-requires : goal.put_list-b-requires
unfolding order_line bytes
put_list-b-requires c =
    room_first (listed c.args.order.now) (bytes "\n") _ _ (room_second (bytes "order") (listed c.args.order.now ++ bytes "\n") _ _ _
    _ c.requires c.put_bytes-a.ensures)

pub put_bytes-requires : goal.put_bytes-requires
unfolding order_line bytes
put_bytes-requires c =
    room_second (listed c.args.order.now) (bytes "\n") _ _ _ _ (room_second (bytes "order") (listed c.args.order.now ++ bytes "\n")
    _ _ _ _ c.requires c.put_bytes-a.ensures) c.put_list-b.ensures

pub returns : goal.returns
unfolding order_line bytes
returns c =
    put_both (bytes "order") _ _ _ _ _ _ _ c.put_bytes-a.ensures (put_both _ (bytes "\n") _ _ _ _ _ _ c.put_list-b.ensures
    c.put_bytes.ensures)
