use Prim.Native.Nat.{◌-◌, ◌≤◌}
use Rattle.std.proofs.Common.{length, ◌≡◌, ℕ, ◌<◌}
use Rattle.plane.specs.Plane.{Vector}
use Rattle.plane.specs.Lent.{vector_at}
use Rattle.vectors.specs.Whole.{Front}
use Rattle.vectors.proofs.inner.each.Given as goal

abbrev pub invariant-loop-k : goal.invariant-loop-k
invariant-loop-k g l =
    (l.k ≤ l.n) × (length l.x ≡ length l.initial.x)
    × ((f : ℕ → Vector) → ((j : ℕ) → length (f j) ≡ 2)
    → ((k : ℕ) (v : Vector) → k < l.n → goal.F-post g l.part k (vector_at l.initial.x k) v → v ≡ f k) → Front f l.n l.k l.initial.x l.x)

abbrev pub decreases-loop-k : goal.decreases-loop-k
decreases-loop-k g l = l.n - l.k
