use Rattle.std.proofs.Common.{◌≡◌, ◌*◌, length}
use Rattle.columns_table.specs.Pass.{Met}
use Rattle.columns_table.proofs.table.walk.Given as goal

abbrev pub invariant-loop-k : goal.invariant-loop-k
invariant-loop-k l = (length l.seen ≡ length l.initial.seen) × Met l.table.pinned.now l.table.loaded l.table.column_of.now (8 * l.k) l.seen
