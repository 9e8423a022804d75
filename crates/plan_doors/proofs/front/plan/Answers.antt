use mathlib.Core.Path.{refl}
use Rattle.plan_doors.proofs.Planning.{ready_lists, whole_is}
use Rattle.plan_doors.proofs.front.plan.Goals as goal

pub invariant_of-graph : goal.invariant_of-graph
invariant_of-graph c = let p = ready_lists _ c.requires in record { tight = rw c.slots-blocks.ensures.same p.0.pattern; few = p.0.few }

pub plan-requires : goal.plan-requires
plan-requires c = let p = ready_lists _ c.requires in rw c.slots-blocks.ensures.same (p.0.listed, p.1)

pub returns : goal.returns
returns c = whole_is _ _ _ _ _ _ _ _ _ _ _ _ refl (rw c.slots-blocks.ensures.same at c.plan.ensures)
