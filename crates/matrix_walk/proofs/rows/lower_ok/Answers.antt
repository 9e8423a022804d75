use mathlib.Core.Path.{ap}
use mathlib.Core.Bool.{not}
use mathlib.Core.Path.{◌≡◌, refl, sym}
use native.Mathlib.Omega.{arith}
use lib.ListN.{length-set}
use borrow.Author.Rules.{rules}
use Rattle.law.specs.Truth.{passed, refused}
use Rattle.matrix_walk.specs.Walk.{going_none, going_done, turn_high, turn_stops, turn_goes, meet_low, paired_not}
use Rattle.matrix_walk.proofs.rows.lower_ok.Goals as goal

pub loop-k-init : goal.loop-k-init
loop-k-init c = (search rules, search rules, refl, going_none _ _ _ _ _)

pub returns-then-ceiling-q : goal.returns-then-ceiling-q
returns-then-ceiling-q c =
    paired_not _ _ _ _ _ _ _ (turn_high _ _ _ _ _ _ c.loop-k.k _ c.loop-k.next c.loop-k.invariant.3 c.loop-k-test.true
    c.loop-k.invariant.1 _ c.wide-q.ensures.same c.if-ceiling-q.true)

pub offset_bounds-next-q : goal.offset_bounds-next-q
offset_bounds-next-q c =
    omega (arith, c.if-ceiling-q.false, c.loop-k.invariant.3.most, c.loop-k.invariant.2, c.requires.cursors)

pub bounds-next-q : goal.bounds-next-q
bounds-next-q c =
    omega (arith, c.if-ceiling-q.false, c.loop-k.invariant.3.most, c.loop-k.invariant.2, c.requires.cursors)

pub returns-then-not-meet_ok : goal.returns-then-not-meet_ok
returns-then-not-meet_ok c =
    paired_not _ _ _ _ _ _ _
    (turn_stops _ _ _ _ _ _ c.loop-k.k _ c.loop-k.next c.loop-k.invariant.3 c.loop-k-test.true c.loop-k.invariant.1 _
    c.wide-q.ensures.same _ c.if-ceiling-q.false
    c.wide-slot.ensures.same (refused _ _ c.meet_ok.ensures (ap not c.if-not-meet_ok.true)))

pub overflow_cast-next : goal.overflow_cast-next
overflow_cast-next c =
    omega (arith, c.requires.few, meet_low _ _ _ _ (passed _ _ c.meet_ok.ensures (ap not c.if-not-meet_ok.false)))

pub loop-k-preserved : goal.loop-k-preserved
loop-k-preserved c = (
  search rules,
  search rules,
  rw length-set c.loop-k.invariant.2,
  turn_goes _ _ _ _ c.args.b c.args.a c.loop-k.k _ c.loop-k.next c.loop-k.invariant.3 c.loop-k-test.true
      c.loop-k.invariant.1 _ c.wide-q.ensures.same _ c.if-ceiling-q.false
      c.wide-slot.ensures.same (omega (arith, c.loop-k.invariant.2, c.requires.cursors))
      (passed _ _ c.meet_ok.ensures (ap not c.if-not-meet_ok.false)),
)

pub returns : goal.returns
returns c =
    let e : c.loop-k.k ≡ c.args.a = omega (arith, c.loop-k.invariant.0, c.loop-k-test.false) in
    let w = rw e at c.loop-k.invariant.3 in
    record { tells = sym (going_done _ _ _ _ _ _ _ _ w); moved = λ _ j l. w.moved j l }
