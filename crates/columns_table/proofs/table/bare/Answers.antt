use mathlib.Core.Path.{refl}
use native.Mathlib.Omega.{arith}
use Rattle.law.proofs.Loop.{over_none, over_turn, over_done}
use Rattle.law.specs.Every.{every}
use Rattle.columns_table.proofs.table.bare.Goals as goal

pub loop-k-init : goal.loop-k-init
unfolding every
loop-k-init c = (refl, omega arith, omega arith, over_none _ _ _)

pub loop-k-preserved : goal.loop-k-preserved
unfolding every
loop-k-preserved c =
    (c.loop-k.invariant.0, omega arith, omega arith, over_turn _ _ _ _ _ _ c.loop-k.invariant.1 c.loop-k.invariant.3 refl)

pub returns : goal.returns
unfolding every
returns c =
    over_done _ _ _ _ _ _ c.loop-k.invariant.3 (omega arith) (omega arith)
