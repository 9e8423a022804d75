use Rattle.bench_plan.proofs.Fronts.{planned_is}
use Rattle.bench_plan.proofs.inner.from_pattern.Goals as goal

pub returns : goal.returns
returns c = planned_is _ _ _ _ _ _ _ _ _ _ _ c.plan.ensures
