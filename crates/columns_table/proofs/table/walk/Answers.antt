use native.Mathlib.Omega.{arith}
use Rattle.columns_table.specs.Pass.{passed_early}
use Rattle.columns_table.proofs.table.walk.Goals as goal

pub returns-then-not-eight : goal.returns-then-not-eight
returns-then-not-eight c =
    passed_early _ _ _ _ _ _ _ (omega (arith, c.loop-k-test.true)) c.eight.ensures c.if-not-eight.true
