use mathlib.Core.Path.{◌≡◌}
use Prim.Native.Nat.{◌-◌, ◌≤◌}
use Rattle.law.specs.Loop.{over}
use Rattle.plane.specs.Plane.{zero32}
use Rattle.vectors.specs.Whole.{dot_step}
use Rattle.vectors.proofs.inner.dot_all.Given as goal

abbrev pub invariant-loop-k : goal.invariant-loop-k
invariant-loop-k l = (l.k ≤ l.n) × (l.sum ≡ over (dot_step l.u l.v) 0 l.k zero32)

abbrev pub decreases-loop-k : goal.decreases-loop-k
decreases-loop-k l = l.n - l.k
