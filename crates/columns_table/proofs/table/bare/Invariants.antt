use mathlib.Core.Path.{◌≡◌}
use Prim.Native.Nat.{◌+◌, ◌≤◌}
use lib.Dec.{eqb}
use Rattle.law.specs.Limit.{unloaded}
use Rattle.law.specs.Every.{every}
use Rattle.matrix_shape.specs.Rows.{at}
use Rattle.columns_table.proofs.table.bare.Given as goal

abbrev pub invariant-loop-k : goal.invariant-loop-k
invariant-loop-k l = (l.k-end ≡ l.p + 8) × (l.p ≤ l.k) × (l.k ≤ l.k-end) × (l.ok ≡ every (λ j. eqb (at l.column_of j) unloaded) l.p l.k)
