use Rattle.law.proofs.Promise.{accepts}
use Rattle.columns_make.specs.Making.{door, refusals, ready, refused_once}
use Rattle.columns_make.proofs.inner.compute_columns.Goals as goal

pub returns-in-Err : goal.returns-in-Err
returns-in-Err c = refused_once _ _ _ c.in-Err.ensures c.count.ensures

pub compute-requires : goal.compute-requires
unfolding refusals
compute-requires c = ready _ c.in_default.ensures

pub returns : goal.returns
unfolding refusals
returns c = accepts door _ c.in_default.ensures _ c.compute.ensures
