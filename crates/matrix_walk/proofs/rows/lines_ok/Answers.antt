use mathlib.Core.Path.{ap}
use mathlib.Core.Bool.{not}
use mathlib.Core.Path.{◌≡◌, refl, sym, ◌∙◌}
use Prim.Native.Nat.{◌<◌, zero-le}
use native.Mathlib.Omega.{arith}
use lib.ListN.{length, length-set}
use borrow.Author.Rules.{rules}
use Rattle.law.proofs.Every.{every_none}
use Rattle.law.specs.Truth.{passed, refused}
use borrow.Author.Tests.{not-false}
use Rattle.matrix_shape.specs.Rows.{row_end}
use Rattle.matrix_shape.specs.Phases.{ends_in}
use Rattle.matrix_walk.specs.Walk.{lined_not, row_no_home, row_no_pairs, row_tested, home_is}
use Rattle.matrix_walk.proofs.Walk.{row_stands}
use Rattle.matrix_walk.proofs.rows.lines_ok.Goals as goal

pub loop-r-init : goal.loop-r-init
loop-r-init c = (zero-le, refl, sym (every_none _ 0), λ j l. absurd (omega arith))

pub home_ok-requires : goal.home_ok-requires
home_ok-requires c =
    omega (
      arith,
      c.wide-b.ensures.same,
      ends_in _ _ _ _ c.requires.spread c.loop-r.r c.loop-r-test.true,
    )

pub returns-then-not-home_ok : goal.returns-then-not-home_ok
returns-then-not-home_ok c =
    lined_not _ _ _ _ _ _ (row_no_home _ _ _ _ _ c.loop-r.r c.loop-r-test.true _
    _ _ c.wide-a.ensures.same c.wide-b.ensures.same
    c.wide-k.ensures.same (refused _ _ c.home_ok.ensures (ap not c.if-not-home_ok.true)))

pub lower_ok-requires : goal.lower_ok-requires
lower_ok-requires c =
    let l = c.loop-r-test.true in
    let h = home_is _ _ _ _ _ (passed _ _ c.home_ok.ensures (ap not c.if-not-home_ok.false)) in
    let e = row_end _ _ c.requires.spread.rise c.loop-r.r l in
    record {
      few = c.slots-m.ensures.small;
      columns = omega (arith, c.requires.count, c.requires.spread.held.columns);
      order = h.0;
      most = omega (arith, h.1, c.requires.count, e, c.wide-b.ensures.same);
      cursors = omega (arith, c.loop-r.invariant.1, c.requires.cursors);
    }

pub returns-then-not-lower_ok : goal.returns-then-not-lower_ok
returns-then-not-lower_ok c =
    rw (← c.slots-m.ensures.same) (lined_not _ _ _ _ _ _
    (row_no_pairs _ _ _ _ _ c.loop-r.r c.loop-r-test.true _ _ _ c.wide-a.ensures.same
    c.wide-b.ensures.same
    c.wide-k.ensures.same c.loop-r.next c.loop-r.invariant.3
    (refused _ _ c.lower_ok.ensures.tells (ap not c.if-not-lower_ok.true))))

pub overflow_cast-next : goal.overflow_cast-next
overflow_cast-next c =
    let h = home_is _ _ _ _ _ (passed _ _ c.home_ok.ensures
    (ap not c.if-not-home_ok.false)) in
    omega (arith, h.1, c.wide-b.ensures.small)

pub bounds-next-r : goal.bounds-next-r
bounds-next-r c = omega (
  arith,
  c.loop-r-test.true,
  c.lower_ok.auto.next,
  c.loop-r.invariant.1,
  c.requires.cursors,
)

pub loop-r-preserved : goal.loop-r-preserved
loop-r-preserved c =
    let l = c.loop-r-test.true in
    let p = c.lower_ok in
    let k : length p.new.next ≡ length c.args.next.now = p.auto.next ∙ c.loop-r.invariant.1 in
    let room : c.loop-r.r < length p.new.next = omega (arith, k, c.requires.cursors) in
    let home = passed _ _ c.home_ok.ensures (ap not c.if-not-home_ok.false) in
    let pairs = passed _ _ p.ensures.tells (ap not c.if-not-lower_ok.false) in (
      search rules,
      rw length-set k,
      row_tested _ _ _ _ _ c.loop-r.r l _ _ _ c.wide-a.ensures.same c.wide-b.ensures.same
          c.wide-k.ensures.same c.loop-r.next c.loop-r.invariant.3
          p.new.next room c.loop-r.invariant.2 home pairs,
      row_stands _ _ _ _ _ c.loop-r.r l _ _ _ c.wide-a.ensures.same c.wide-b.ensures.same
          c.wide-k.ensures.same c.loop-r.next c.loop-r.invariant.3
          p.new.next room c.loop-r.invariant.2 home pairs
          (p.ensures.moved (not-false _ (ap not c.if-not-lower_ok.false))),
    )

pub returns : goal.returns
returns c =
    let e : c.loop-r.r ≡ c.args.pattern.now.n = omega (arith, c.loop-r.invariant.0, c.loop-r-test.false) in
    rw (← c.slots-m.ensures.same) record { tells = sym (rw e at c.loop-r.invariant.2); stands = λ _ j l. rw e at (c.loop-r.invariant.3 j (omega arith)) }
