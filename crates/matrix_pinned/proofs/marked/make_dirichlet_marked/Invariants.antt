use mathlib.Core.Path.{◌≡◌}
use Prim.Native.Nat.{◌-◌, ◌≤◌}
use lib.ListN.{length}
use Rattle.law.specs.Loop.{over}
use Rattle.matrix_pinned.specs.Marked.{pin_step}
use Rattle.matrix_pinned.proofs.marked.make_dirichlet_marked.Given as goal

abbrev pub invariant-loop-row : goal.invariant-loop-row
invariant-loop-row l = (l.row ≤ l.pattern.n) × (l.blocks ≡ over (pin_step l.pattern.n l.pattern.row_offsets.now l.pattern.cols.now l.marks) 0 l.row l.initial.blocks)
    × (length l.blocks ≡ length l.initial.blocks)

abbrev pub decreases-loop-row : goal.decreases-loop-row
decreases-loop-row l = l.pattern.n - l.row
