use mathlib.Core.Path.{◌≡◌}
use Prim.Native.Nat.{◌*◌, ◌≤◌}
use Rattle.plan_layout.specs.Ordering.{col_at}
use Rattle.plan_layout.specs.Starts.{start_at}
use Rattle.plan_layout.proofs.rows.envelope.Given as goal

abbrev pub invariant-loop-i : goal.invariant-loop-i
invariant-loop-i l = (l.len ≤ 4096 * l.i) × (l.len ≡ start_at (col_at l.ordered) (2 * l.i))
