use native.Mathlib.Omega.{arith}
use Rattle.law.specs.Bytes.{bytes}
use Rattle.law.specs.Put.{put_both, room_first, room_second, written_of}
use Rattle.bench_print.specs.Lines.{order_line, number_line, plan_text}
use Rattle.bench_print.proofs.Lengths.{plan_short}
use Rattle.bench_print.proofs.inner.write_plan.Goals as goal

pub put_order-at-requires : goal.put_order-at-requires
unfolding plan_text bytes
put_order-at-requires c =
    let fits = plan_short c.args.order.now c.args.envelope _ (λ i. (c.type_inv.order i).fits) (omega arith) c.requires in
    room_first (order_line c.args.order.now) (number_line (bytes "envelope ") c.args.envelope) 0 _ (omega arith)

pub put_line-requires : goal.put_line-requires
unfolding plan_text bytes
put_line-requires c =
    let fits = plan_short c.args.order.now c.args.envelope _ (λ i. (c.type_inv.order i).fits) (omega arith) c.requires in
    room_second (order_line c.args.order.now) (number_line (bytes "envelope ") c.args.envelope) _ _ 0 _ (omega arith) c.put_order-at.ensures

pub returns : goal.returns
unfolding plan_text bytes
returns c =
    let fits = plan_short c.args.order.now c.args.envelope _ (λ i. (c.type_inv.order i).fits) (omega arith) c.requires in
    written_of _ _ _ _ fits (put_both _ (number_line (bytes "envelope ") c.args.envelope) _ _ _ _ _ _ c.put_order-at.ensures
    c.put_line.ensures)
