use Prim.Native.Nat.{ℕ, ◌+◌, ◌*◌, ◌^◌, ◌<◌}
use Rattle.root.proofs.isqrt.Given as goal

abbrev pub Guess : ℕ → ℕ → Type 0
Guess n r = (n < (r + 1) * (r + 1)) × (r < 2 ^ 32)

abbrev pub invariant-loop-r : goal.invariant-loop-r
invariant-loop-r l = Guess l.n l.r

abbrev pub decreases-loop-r : goal.decreases-loop-r
decreases-loop-r l = l.r
