use mathlib.Core.Path.{◌≡◌}
use Prim.Native.Nat.{◌-◌, ◌≤◌}
use Rattle.law.specs.Gather.{gather, table}
use Rattle.law.specs.Store.{written}
use Rattle.matrix_shape.specs.Made.{row_of, start_of, slot_of}
use Rattle.matrix_pairs.specs.Pairs.{stored_by}
use Rattle.matrix_build.proofs.filling.fill_rows.Given as goal

abbrev pub invariant-loop-r : goal.invariant-loop-r
invariant-loop-r l = (l.r ≤ l.pairs.n) × (l.at ≡ start_of l.pairs.n (stored_by l.pairs.list.now l.pairs.count) l.r)
    × (l.row_offsets ≡ written l.initial.row_offsets 0 (table (start_of l.pairs.n (stored_by l.pairs.list.now l.pairs.count)) l.r))
    × (l.cols ≡ written l.initial.cols 0 (gather (row_of l.pairs.n (stored_by l.pairs.list.now l.pairs.count)) 0 l.r))
    × (l.diagonal ≡ written l.initial.diagonal 0 (table (slot_of l.pairs.n (stored_by l.pairs.list.now l.pairs.count)) l.r))

abbrev pub decreases-loop-r : goal.decreases-loop-r
decreases-loop-r l = l.pairs.n - l.r
