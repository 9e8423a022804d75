use Rattle.std.proofs.Common.{refl, sym, ◌∙◌, arith, Some}
use Rattle.law.proofs.Loop.{over_none, over_turn, over_done}
use Rattle.bench_scan.specs.Scan.{state_to}
use Rattle.bench_scan.proofs.Turn.{count_after, room_long, scan_bad, scan_end}
use Rattle.bench_scan.proofs.inner.scanned.Goals as goal

pub loop-b-init : goal.loop-b-init
loop-b-init c = (omega arith, refl, over_none _ _ _)

pub returns-in_err-s : goal.returns-in_err-s
returns-in_err-s c =
    rw c.from_residual.ensures (scan_bad _ _ _ c.loop-b.b-index _ _ _ _ c.loop-b-test.true refl c.loop-b.invariant.2
    (sym c.in_err-s.was ∙ c.step.ensures) c.store.ensures)

pub loop-b-preserved : goal.loop-b-preserved
unfolding state_to
loop-b-preserved c =
    let e = sym c.in_ok-s.was ∙ c.step.ensures in (
      count_after _ _ _ _ e c.loop-b.invariant.0,
      rw c.store.ensures (room_long _ _ (Some c.loop-b.s) _ ∙ c.loop-b.invariant.1),
      over_turn _ _ c.loop-b.b-index _ (Some c.loop-b.s, c.loop-b.room) _ (omega arith) c.loop-b.invariant.2 (rw (e, c.store.ensures)),
    )

pub returns : goal.returns
returns c =
    scan_end _ _ _ _ _ c.loop-b.room _
    (over_done _ _ c.loop-b.b-index _ _ (_, c.loop-b.room) c.loop-b.invariant.2 (omega arith) (omega arith))
    c.step-2.ensures
    c.store-2.ensures
