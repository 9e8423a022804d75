use native.Mathlib.Omega.{arith}
use mathlib.Core.Path.{refl, sym, ◌∙◌}
use lib.Seq.{length-take-le}
use lib.ListN.{length-set}
use Rattle.order_definition.specs.Searches.{reach_of}
use Rattle.order_search.proofs.Meeting.{met_to_none, met_to_all, meet_yes, meet_no, meet_room}
use Rattle.order_search.proofs.breadth.meet_row.Goals as goal
use Rattle.order_search.proofs.breadth.meet_row.Goals.{then-is_new, else-is_new}

pub loop-c-init : goal.loop-c-init
loop-c-init c = (
  refl,
  refl,
  rw met_to_none (record { size = sym (length-take-le c.args.len c.args.queue.now c.requires.len_in_bounds); front = refl; levels = refl }),
)

pub bounds-queue-at : goal.bounds-queue-at
bounds-queue-at c =
    let l = c.loop-c in
    let w = rw c.wide-w.ensures.same at (sym c.is_new.ensures ∙ c.if-is_new.true) in
    let r = meet_room _ _ _ _ (reach_of c.args.queue.now c.args.level.now c.args.len) _ _ _ _
    c.loop-c-test.true l.invariant.2 _ w c.requires.room in
    omega (arith, l.invariant.0)

pub loop-c-preserved : goal.loop-c-preserved
loop-c-preserved c =
    let l = c.loop-c in
    let r = reach_of c.args.queue.now c.args.level.now c.args.len in
    let is = rw c.wide-w.ensures.same at (sym c.is_new.ensures) in
    elim c.if-is_new.branch [
      | then-is_new w ↦
          let room = meet_room _ _ _ _ r _ _ _ _ c.loop-c-test.true l.invariant.2 _
          (is ∙ w.if-is_new.true) c.requires.room in (
            rw w.queue-is (simp length-set l.invariant.0),
            rw w.level-is (simp length-set l.invariant.1),
            rw (w.queue-is, w.level-is, w.at-is, c.wide-w.ensures.same) (meet_yes _ _ _ _ r _ _ _ _
                c.loop-c-test.true l.invariant.2 (is ∙ w.if-is_new.true) (omega (arith, l.invariant.0))),
          )
      | else-is_new w ↦ (
        rw w.queue-is l.invariant.0,
        rw w.level-is l.invariant.1,
        rw (w.queue-is, w.level-is, w.at-is) (meet_no _ _ _ _ r _ _ _ _
            c.loop-c-test.true l.invariant.2 (is ∙ w.if-is_new.false)),
      )
    ]

pub returns : goal.returns
returns c =
    let l = c.loop-c in
    rw (sym (met_to_all c.args.row.now c.args.mark.now c.args.v c.args.l (reach_of c.args.queue.now c.args.level.now c.args.len) l.c-index (omega arith)))
    l.invariant.2
