use mathlib.Core.Path.{◌≡◌}
use Prim.Native.Nat.{◌*◌}
use Rattle.law.specs.Gather.{table}
use Rattle.law.specs.Store.{written}
use Rattle.plan_layout.specs.Ordering.{col_at}
use Rattle.plan_layout.proofs.rows.fill_first.Given as goal

abbrev pub invariant-loop-i : goal.invariant-loop-i
invariant-loop-i l = l.first ≡ written l.initial.first 0 (table (col_at l.ordered) (2 * l.i))
