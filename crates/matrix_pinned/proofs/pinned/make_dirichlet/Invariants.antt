use Prim.Native.Nat.{◌-◌, ◌≤◌}
use Rattle.matrix_pinned.specs.Mirrors.{Crossed}
use Rattle.matrix_pinned.proofs.pinned.make_dirichlet.Given as goal

abbrev pub invariant-loop-k : goal.invariant-loop-k
invariant-loop-k l = (l.start ≤ l.k) × (l.k ≤ l.end) × Crossed l.pattern.row_offsets.now l.pattern.cols.now l.pattern.n l.row l.initial.blocks l.k l.blocks

abbrev pub decreases-loop-k : goal.decreases-loop-k
decreases-loop-k l = l.end - l.k
