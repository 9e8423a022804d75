use Prim.Native.Nat.{zero-le}
use borrow.Author.Rules.{rules}
use Rattle.law.proofs.Loop.{over_none, over_turn, over_done}
use Rattle.vectors.specs.Whole.{dot_all}
use Rattle.vectors.proofs.inner.dot_all.Goals as goal

pub loop-k-init : goal.loop-k-init
loop-k-init c = (zero-le, over_none _ 0 _)

pub loop-k-preserved : goal.loop-k-preserved
loop-k-preserved c = (
  search rules,
  over_turn _ 0 _ _ _ _ zero-le c.loop-k.invariant.1
      (rw (c.dot-sum.ensures, c.vector_at-in-loop-k.ensures, c.vector_at.ensures)),
)

pub returns : goal.returns
unfolding dot_all
returns c =
    over_done _ 0 _ _ _ _ c.loop-k.invariant.1 c.loop-k.invariant.0 c.loop-k-test.false
