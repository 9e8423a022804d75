-- A TEST OF EVERY NUMBER OF A RANGE, and of some number of it, as a loop runs it; and what its answer means, both ways.
use Prim.Native.Nat.{ℕ}
use Rattle.std.specs.Prelude.{Bool, true, false, ◌&&◌, ◌||◌}
use Rattle.law.specs.Loop.{over}

unfoldable pub every : (ℕ → Bool) → ℕ → ℕ → Bool
every p a b = over (λ k ok. ok && p k) a b true

unfoldable pub some : (ℕ → Bool) → ℕ → ℕ → Bool
some p a b = over (λ k ok. ok || p k) a b false
