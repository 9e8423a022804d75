use borrow.Author.Rules.{rules}
use Rattle.law.proofs.Loop.{over_turn}
use Rattle.law.specs.Every.{every}
use Rattle.plan_inside.specs.Half.{two_ok}
use Rattle.plan_inside.proofs.inside.slots_ok.Goals as goal

pub loop-k-preserved : goal.loop-k-preserved
unfolding every two_ok
loop-k-preserved c = (
  search rules,
  search rules,
  over_turn _ _ _ _ _ _ c.loop-k.invariant.0 c.loop-k.invariant.2
      (rw (c.wide.ensures.same, c.wide-j.ensures.same, c.wide-c.ensures.same)),
)
