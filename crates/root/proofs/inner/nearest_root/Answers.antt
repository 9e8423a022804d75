use mathlib.Core.Path.{◌≡◌, sym, subst}
use Prim.Native.Nat.{ℕ, ◌*◌, ◌≤◌, ◌<◌}
use native.Mathlib.Omega.{arith}
use native.Mathlib.Numerals.{add-one}
use Rattle.root.specs.Whole.{root_of}
use Rattle.root.proofs.Whole.{root_within, root_le}
use Rattle.root.proofs.Nearest.{stays, moves}
use Rattle.root.proofs.inner.nearest_root.Goals as goal

below : (n q : ℕ) → q ≡ root_of n → q * q ≤ n
below n q e = subst (λ (x : ℕ). x * x ≤ n) (sym e) (root_within n).0

pub overflow_mul-q : goal.overflow_mul-q
overflow_mul-q c = omega (arith, below _ _ c.isqrt-q.ensures)

pub overflow_sub-n : goal.overflow_sub-n
overflow_sub-n c = omega (arith, below _ _ c.isqrt-q.ensures)

-- the root of a word is half a word
small : (n q : ℕ) → q ≡ root_of n → n < 18446744073709551616 → q ≤ 4294967295
small n q e h = subst (λ (x : ℕ). x ≤ 4294967295) (sym e) (root_le n 4294967295 h)

pub overflow_add-result : goal.overflow_add-result
overflow_add-result c =
    omega (arith, small _ _ c.isqrt-q.ensures (omega arith))

pub returns-then-n-q : goal.returns-then-n-q
returns-then-n-q c = stays _ _ c.isqrt-q.ensures (omega arith)

pub returns-else-n-q : goal.returns-else-n-q
returns-else-n-q c = rw add-one (moves _ _ c.isqrt-q.ensures (omega arith))
