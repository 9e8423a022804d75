use Rattle.bench_print.proofs.Lists.{bytes_put}
use Rattle.bench_print.proofs.inner.put_bytes.Goals as goal

pub returns : goal.returns
returns c = rw c.copy_from_slice.ensures.after (bytes_put _ _ _ c.requires)
