use Rattle.std.proofs.Common.{◌≡◌, ◌≤◌, length}
use Rattle.columns_table.specs.Pass.{Met}
use Rattle.columns_table.proofs.table.pass.Given as goal

abbrev pub invariant-loop-p : goal.invariant-loop-p
invariant-loop-p l = (l.p ≤ l.b) × (length l.seen ≡ length l.initial.seen) × Met l.table.pinned.now l.table.loaded l.table.column_of.now l.p l.seen
