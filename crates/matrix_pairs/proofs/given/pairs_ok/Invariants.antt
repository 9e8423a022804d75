use mathlib.Core.Path.{◌≡◌}
use Prim.Native.Nat.{◌-◌, ◌≤◌}
use Rattle.law.specs.Every.{every}
use Rattle.matrix_pairs.specs.Pairs.{pair_ok_at}
use Rattle.matrix_pairs.proofs.given.pairs_ok.Given as goal

abbrev pub invariant-loop-i : goal.invariant-loop-i
invariant-loop-i l = (l.i ≤ l.count) × (l.ok ≡ every (pair_ok_at l.n l.pairs) 0 l.i)

abbrev pub decreases-loop-i : goal.decreases-loop-i
decreases-loop-i l = l.count - l.i
