use native.Mathlib.Omega.{arith}
use mathlib.Core.Path.{sym, ◌∙◌}
use Rattle.order_definition.proofs.Filling.{open_to_all, append_yes, append_no, append_room}
use Rattle.order_make.proofs.place.append_open.Goals as goal
use Rattle.order_make.proofs.place.append_open.Goals.{then-is_open, else-is_open}

pub bounds-order-at : goal.bounds-order-at
bounds-order-at c =
    let l = c.loop-w in
    let is = rw c.wide.ensures.same at (sym c.is_open.ensures ∙ c.if-is_open.true) in
    omega (
      arith,
      append_room c.args.row.now c.args.mark.now c.args.v c.args.len c.args.order.now l.w-index l.at l.order c.loop-w-test.true l.invariant _ is
          c.requires.room,
      l.invariant.1,
    )

pub loop-w-preserved : goal.loop-w-preserved
loop-w-preserved c =
    let l = c.loop-w in
    let is = rw c.wide.ensures.same at (sym c.is_open.ensures) in
    elim c.if-is_open.branch [
      | then-is_open w ↦
          rw (w.order-is, w.at-is) (append_yes c.args.row.now c.args.mark.now c.args.v c.args.len c.args.order.now l.w-index l.at l.order c.loop-w-test.true
          l.invariant (is ∙ w.if-is_open.true) (append_room c.args.row.now c.args.mark.now c.args.v c.args.len c.args.order.now l.w-index l.at l.order
          c.loop-w-test.true l.invariant _ (is ∙ w.if-is_open.true) c.requires.room))
      | else-is_open w ↦
          rw (w.order-is, w.at-is) (append_no c.args.row.now c.args.mark.now c.args.v c.args.len c.args.order.now l.w-index l.at l.order c.loop-w-test.true
          l.invariant (is ∙ w.if-is_open.false))
    ]

pub returns : goal.returns
returns c =
    let l = c.loop-w in
    rw (sym (open_to_all c.args.row.now c.args.mark.now c.args.v l.w-index (omega arith))) (record { value = l.invariant.0; order_after = l.invariant.2 })
