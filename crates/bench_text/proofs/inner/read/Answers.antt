use Rattle.bench_text.proofs.Nine.{not_described, is_described}
use Rattle.bench_text.proofs.Passes.{head_known, head_none}
use Rattle.bench_text.proofs.inner.read.Goals as goal

pub returns-in_default : goal.returns-in_default
returns-in_default c = not_described _ _ _ (head_none _ c.in_default.ensures)

pub taken-requires : goal.taken-requires
taken-requires c = head_known _ _ c.in-Some.ensures

pub returns : goal.returns
returns c = is_described _ _ _ _ (head_known _ _ c.in-Some.ensures).right c.taken.ensures
