use Rattle.std.proofs.Common.{◌≡◌, length, false}
use Rattle.law.specs.Loop.{over}
use Rattle.columns_combine.specs.Summed.{sum_of, and_then, entry_added}
use Rattle.columns_combine.proofs.combine.add_all.Given as goal

abbrev pub invariant-loop-e : goal.invariant-loop-e
invariant-loop-e l = (length l.out ≡ length l.initial.out)
    × (sum_of l.out false ≡ over (λ k s. and_then s (entry_added l.n l.table.pinned.now l.table.column_of.now l.columns l.entries.particles.now l.entries.gradients.now k)) 0 l.e (sum_of l.initial.out false))
