use Prim.Native.Nat.{ℕ}
use native.Mathlib.Omega.{arith}
use mathlib.Core.Path.{ap, ◌∙◌, subst}
use lib.ListN.{replicate, length-set}
use Rattle.order_definition.specs.Order.{Breadth}
use Rattle.order_definition.specs.Searches.{Searched}
use Rattle.order_search.proofs.Exploring.{row_below, len_short, v_below, level_small, row_step, row_room, all_done, begun}
use Rattle.order_search.proofs.breadth.explore.Goals as goal

pub loop-head-init : goal.loop-head-init
loop-head-init c =
    let r = c.requires.lists in (
      omega arith,
      record { marks = r.marks; levels = simp length-set (c.clear.auto.list ∙ r.levels); places = simp length-set r.places },
      begun c.args.graph.now c.args.mark.now c.args.s r.marks c.requires.free_at c.args.queue.now _ r.places
          (c.clear.ensures ∙ ap (λ (k : ℕ). replicate k 0) r.levels),
    )

pub bounds-level-v : goal.bounds-level-v
bounds-level-v c =
    let l = c.loop-head in
    let r = c.requires in
    let v = v_below c.args.graph.now _ _ r.lists.marks r.free_at _ _ _ _ l.invariant.2 c.loop-head-test.true in
    omega (arith, c.wide-v.ensures.same, l.invariant.1.levels)

pub overflow_add-l : goal.overflow_add-l
overflow_add-l c =
    let l = c.loop-head in
    let r = c.requires in
    let most = level_small c.args.graph.now _ _ r.lists.marks r.free_at _ _ _ _ l.invariant.2 c.loop-head-test.true in
    rw c.wide-v.ensures.same (omega (arith, c.args.graph.now.few, l.invariant.0))

pub row-requires : goal.row-requires
row-requires c =
    let l = c.loop-head in
    let r = c.requires in
    rw c.wide-v.ensures.same (v_below c.args.graph.now _ _ r.lists.marks r.free_at _ _ _ _ l.invariant.2
    c.loop-head-test.true)

pub meet_row-len-requires-clause-below : goal.meet_row-len-requires-clause-below
meet_row-len-requires-clause-below c =
    let l = c.loop-head in
    let r = c.requires in
    rw (c.row.ensures, r.lists.marks, c.wide-v.ensures.same) (row_below c.args.graph.now _ (v_below c.args.graph.now _ _ r.lists.marks
    r.free_at _ _ _ _ l.invariant.2 c.loop-head-test.true))

pub meet_row-len-requires-clause-room : goal.meet_row-len-requires-clause-room
meet_row-len-requires-clause-room c =
    let l = c.loop-head in
    let r = c.requires in
    rw (c.row.ensures, l.invariant.1.places) (row_room c.args.graph.now _ _ r.lists.marks r.free_at _ _ _ _
    l.invariant.2 c.loop-head-test.true c.wide-v.result c.wide-v.ensures.same)

pub loop-head-preserved : goal.loop-head-preserved
loop-head-preserved c =
    let l = c.loop-head in
    let r = c.requires in
    let m = c.meet_row-len in
    let short = len_short c.args.graph.now _ _ r.lists.marks r.free_at _ _ _ _ l.invariant.2 in
    let step = row_step c.args.graph.now _ _ r.lists.marks r.free_at _ _ _ _ l.invariant.2 c.loop-head-test.true
    c.wide-v.result c.wide-v.ensures.same in (
      omega arith,
      record { marks = r.lists.marks; levels = m.auto.level ∙ l.invariant.1.levels; places = m.auto.queue ∙ l.invariant.1.places },
      subst (λ (t : Breadth). Searched t m.new.queue m.new.level m.result) step (rw c.row.ensures at m.ensures),
    )

pub returns : goal.returns
returns c =
    let l = c.loop-head in
    let r = c.requires in
    all_done c.args.graph.now _ _ r.lists.marks r.free_at _ _ _ _ l.invariant.2 c.loop-head-test.false l.invariant.0
