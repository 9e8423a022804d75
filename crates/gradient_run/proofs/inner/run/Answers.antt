use mathlib.Core.Path.{◌≡◌, ◌∙◌}
use Prim.Native.Nat.{◌-◌}
use native.Mathlib.Omega.{arith}
use Rattle.gradient_run.proofs.Laws.{run_none, loop_bent, loop_done, loop_onward}
use Rattle.gradient_run.proofs.inner.run.Goals as goal

pub returns-in-Bent : goal.returns-in-Bent
returns-in-Bent c = loop_bent _ _ _ _ _ _ c.loop-count-test.true _ _ _ _ _ _ c.turn-turned.ensures _ c.in-Bent.is ∙ c.loop-count.invariant

pub returns-in-Done : goal.returns-in-Done
returns-in-Done c = loop_done _ _ _ _ _ _ c.loop-count-test.true _ _ _ _ _ _ c.turn-turned.ensures _ c.in-Done.is ∙ c.loop-count.invariant

pub loop-count-preserved : goal.loop-count-preserved
loop-count-preserved c =
    loop_onward _ _ _ _ _ _ c.loop-count-test.true _ _ _ _ _ _ c.turn-turned.ensures _ _ c.in-Onward.is ∙ c.loop-count.invariant

pub returns : goal.returns
returns c =
    let all : c.loop-count.count ≡ c.args.limit = omega arith in
    let left : c.args.limit - c.loop-count.count ≡ 0 = omega arith in
    run_none _ _ _ _ _ _ _ ∙ rw (left, all) at c.loop-count.invariant
