use native.Mathlib.Omega.{arith}
use mathlib.Core.Path.{◌∙◌, ◌≡◌}
use Prim.Native.Nat.{zero-le}
use Rattle.order_make.proofs.Standing.{none_stand, who_below, row_marks, room, visited_stands, whole}
use Rattle.order_make.proofs.place.place_all.Goals as goal

pub loop-h-init : goal.loop-h-init
loop-h-init c =
    (zero-le, c.requires.order_len, c.requires.lists, none_stand c.args.ranked.now c.args.order.now c.args.mark.now c.requires.order_len c.requires.unmarked)

pub row-requires : goal.row-requires
row-requires c = who_below c.args.ranked.now c.loop-h.h _ _ _ (omega arith) c.open_stretch-len.ensures c.wide-v.result c.wide-v.ensures.same

pub visit-len-requires-clause-below : goal.visit-len-requires-clause-below
visit-len-requires-clause-below c =
    rw c.row.ensures (row_marks c.args.ranked.now c.loop-h.h _ _ _ (omega arith) c.open_stretch-len.ensures c.wide-v.result c.wide-v.ensures.same)

pub visit-len-requires-clause-room : goal.visit-len-requires-clause-room
visit-len-requires-clause-room c =
    rw c.row.ensures (room c.args.ranked.now c.loop-h.h _ _ _ (omega arith) c.open_stretch-len.ensures c.wide-v.result c.wide-v.ensures.same)

pub loop-h-preserved : goal.loop-h-preserved
loop-h-preserved c =
    let l = c.loop-h in
    let w = c.visit-len in
    let f = c.open_stretch-len in
    let i = l.invariant.2 in (
      omega arith,
      l.invariant.1,
      record { marks = w.auto.mark ∙ f.auto.mark ∙ i.marks; levels = f.auto.level ∙ i.levels; places = f.auto.queue ∙ i.places },
      visited_stands c.args.ranked.now l.h _ _ _ (omega arith) f.ensures c.wide-v.result c.wide-v.ensures.same w.result _ _ w.auto.order
          (rw c.row.ensures at w.ensures),
    )

pub returns : goal.returns
returns c =
    let l = c.loop-h in
    let end : l.h ≡ c.args.ranked.now.graph.n = omega arith in
    whole c.args.ranked.now l.order l.mark l.len (rw end at l.invariant.3)
