use mathlib.Core.Path.{sym}
use native.Mathlib.Omega.{arith}
use lib.Seq.{length-take-le}
use Rattle.spy.proofs.reply_in.Goals as goal

pub refuse-requires : goal.refuse-requires
refuse-requires g c = c.requires.1.1.1.1

pub overflow_add-starts : goal.overflow_add-starts
overflow_add-starts g c =
    let w = c.sketch-came.ensures.done _ c.in-Ok.is in
    omega (arith, w.ready.few)

pub offset_bounds-row_offsets-n : goal.offset_bounds-row_offsets-n
offset_bounds-row_offsets-n g c =
    let w = c.sketch-came.ensures.done _ c.in-Ok.is in
    omega (arith, w.ready.few)

pub bounds-row_offsets-n : goal.bounds-row_offsets-n
bounds-row_offsets-n g c =
    let p = c.requires in
    let w = c.sketch-came.ensures.done _ c.in-Ok.is in
    omega (arith, w.ready.few, p.1.1.0.starts_room, c.sketch-came.auto.row_offsets)

pub overflow_mul-rows : goal.overflow_mul-rows
overflow_mul-rows g c =
    let w = c.sketch-came.ensures.done _ c.in-Ok.is in
    omega (arith, w.ready.few)

pub slice_bounds-drawing-end : goal.slice_bounds-drawing-end
slice_bounds-drawing-end g c =
    let p = c.requires in
    let w = c.sketch-came.ensures.done _ c.in-Ok.is in
    omega (arith, w.ready.few, p.1.1.0.starts_room, c.sketch-came.auto.row_offsets)

pub slice_bounds-drawing-end-in-Ok : goal.slice_bounds-drawing-end-in-Ok
slice_bounds-drawing-end-in-Ok g c =
    let p = c.requires in
    let w = c.sketch-came.ensures.done _ c.in-Ok.is in
    sym (length-take-le _ _ (omega (arith, w.ready.few, p.1.1.0.starts_room, c.sketch-came.auto.row_offsets)))

pub slice_bounds-drawing-end-in-Ok-2 : goal.slice_bounds-drawing-end-in-Ok-2
slice_bounds-drawing-end-in-Ok-2 g c =
    let w = c.sketch-came.ensures.done _ c.in-Ok.is in
    omega (arith, w.columns, c.wide-blocks.ensures.same)

pub slice_bounds-drawing-end-in-Ok-3 : goal.slice_bounds-drawing-end-in-Ok-3
slice_bounds-drawing-end-in-Ok-3 g c =
    let w = c.sketch-came.ensures.done _ c.in-Ok.is in
    sym (length-take-le _ _ (omega (arith, w.columns, c.wide-blocks.ensures.same)))

pub slice_bounds-drawing-end-in-Ok-4 : goal.slice_bounds-drawing-end-in-Ok-4
slice_bounds-drawing-end-in-Ok-4 g c =
    let p = c.requires in
    let w = c.sketch-came.ensures.done _ c.in-Ok.is in
    omega (arith, w.ready.few, p.1.1.0.order_room, c.sketch-came.auto.order)

pub slice_bounds-drawing-end-in-Ok-5 : goal.slice_bounds-drawing-end-in-Ok-5
slice_bounds-drawing-end-in-Ok-5 g c =
    let p = c.requires in
    let w = c.sketch-came.ensures.done _ c.in-Ok.is in
    sym (length-take-le _ _ (omega (arith, w.ready.few, p.1.1.0.order_room, c.sketch-came.auto.order)))

pub slice_bounds-drawing-end-in-Ok-6 : goal.slice_bounds-drawing-end-in-Ok-6
slice_bounds-drawing-end-in-Ok-6 g c =
    let p = c.requires in
    let w = c.sketch-came.ensures.done _ c.in-Ok.is in
    omega (arith, w.ready.few, p.1.1.1.0, c.sketch-came.auto.first)

pub slice_bounds-drawing-end-in-Ok-7 : goal.slice_bounds-drawing-end-in-Ok-7
slice_bounds-drawing-end-in-Ok-7 g c =
    let p = c.requires in
    let w = c.sketch-came.ensures.done _ c.in-Ok.is in
    sym (length-take-le _ _ (omega (arith, w.ready.few, p.1.1.1.0, c.sketch-came.auto.first)))

pub draw-requires : goal.draw-requires
draw-requires g c =
    let p = c.requires in
    let w = c.sketch-came.ensures.done _ c.in-Ok.is in
    (rw c.wide-blocks.ensures.same w.ready, p.1.1.1.1)
