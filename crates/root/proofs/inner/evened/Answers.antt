use mathlib.Core.Path.{◌≡◌, sym, ap}
use Prim.Native.Nat.{ℕ, ◌+◌, ◌*◌, ◌%◌, ◌^◌}
use native.Mathlib.Omega.{arith}
use Rattle.root.proofs.inner.evened.Goals as goal

one : (p : ℕ) → (p % 2 ≡ 0 → ⊥) → 1 ≡ p % 2
one p h = omega arith

pub returns-then-power-eq0 : goal.returns-then-power-eq0
returns-then-power-eq0 c = ap (λ (x : ℕ). c.args.digits * 2 ^ (23 + x)) (sym c.if-power-eq0.true)

pub returns-else-power-eq0 : goal.returns-else-power-eq0
returns-else-power-eq0 c = ap (λ (x : ℕ). c.args.digits * 2 ^ (23 + x)) (one c.args.power c.if-power-eq0.false)
