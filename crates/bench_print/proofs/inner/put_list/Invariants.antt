use Rattle.std.proofs.Common.{◌≡◌, length}
use Rattle.law.specs.Put.{Put}
use Rattle.bench_print.proofs.Lists.{items}
use Rattle.bench_print.proofs.inner.put_list.Given as goal

abbrev pub invariant-loop-x : goal.invariant-loop-x
invariant-loop-x l = (length l.out ≡ length l.initial.out) × Put (items l.list l.x-index) l.at l.initial.out l.out l.to
