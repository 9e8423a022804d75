use mathlib.Core.Path.{◌≡◌}
use Prim.Native.Nat.{◌*◌, ◌≤◌}
use Rattle.law.specs.Gather.{table}
use Rattle.law.specs.Store.{written}
use Rattle.matrix_shape.specs.Rows.{at}
use Rattle.plan_layout.specs.Starts.{start_at}
use Rattle.plan_layout.proofs.rows.fill_starts.Given as goal

abbrev pub invariant-loop-r : goal.invariant-loop-r
invariant-loop-r l = (l.next ≤ 4096 * l.r) × (l.next ≡ start_at (at l.first) l.r)
    × (l.row_start ≡ written l.initial.row_start 0 (table (start_at (at l.first)) l.r))
