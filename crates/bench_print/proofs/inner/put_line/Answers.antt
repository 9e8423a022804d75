use Rattle.law.specs.Bytes.{bytes}
use Rattle.law.specs.Put.{put_both, room_first, room_second}
use Rattle.bench_print.specs.Digits.{digits}
use Rattle.bench_print.specs.Lines.{number_line}
use Rattle.bench_print.proofs.inner.put_line.Goals as goal

pub put_bytes-a-requires : goal.put_bytes-a-requires
unfolding number_line bytes
put_bytes-a-requires c = room_first c.args.word.now _ _ _ c.requires

pub put_number-b-requires : goal.put_number-b-requires
unfolding number_line bytes
put_number-b-requires c =
    room_first (digits c.args.n) (bytes "\n") _ _ (room_second _ _ _ _ _ _ c.requires c.put_bytes-a.ensures)

pub put_bytes-requires : goal.put_bytes-requires
unfolding number_line bytes
put_bytes-requires c =
    room_second (digits c.args.n) (bytes "\n") _ _ _ _ (room_second _ _ _ _ _ _ c.requires c.put_bytes-a.ensures) c.put_number-b.ensures

pub returns : goal.returns
unfolding number_line bytes
returns c =
    put_both _ _ _ _ _ _ _ _ c.put_bytes-a.ensures (put_both _ (bytes "\n") _ _ _ _ _ _ c.put_number-b.ensures c.put_bytes.ensures)
