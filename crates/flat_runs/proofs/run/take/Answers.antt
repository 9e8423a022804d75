use mathlib.Core.Path.{refl}
use Prim.Native.Nat.{zero-le}
use lib.ListN.{length-set}
use Rattle.law.proofs.Loop.{over_none, over_turn, over_done}
use Rattle.flat_runs.specs.Run.{take_run}
use borrow.Author.Rules.{rules}
use Rattle.flat_runs.proofs.run.take.Goals as goal

pub loop-c-init : goal.loop-c-init
loop-c-init c = (zero-le, refl, over_none _ 0 _)

pub loop-c-preserved : goal.loop-c-preserved
loop-c-preserved c =
    (search rules, rw length-set c.loop-c.invariant.1, over_turn _ 0 _ _ _ _ zero-le c.loop-c.invariant.2 refl)

pub returns : goal.returns
unfolding take_run
returns c =
    over_done _ 0 _ _ _ _ c.loop-c.invariant.2 c.loop-c.invariant.0 c.loop-c-test.false
