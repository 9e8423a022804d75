use mathlib.Core.Path.{◌≡◌, refl, sym, subst}
use Prim.Native.Nat.{ℕ, ◌-◌, ◌*◌, ◌/◌, ◌%◌, ◌^◌, ◌≤◌, ◌<◌}
use native.Mathlib.Omega.{arith}
use lib.Count.{count_leading_zeros}
use Rattle.root.specs.Sqrt.{Split}
use Rattle.root.proofs.Splitting.{top_of, shifted, normal}
use Rattle.root.proofs.inner.split.Goals as goal

zeros : (b : ℕ) → 0 < b → b / 8388608 ≡ 0 → (9 ≤ count_leading_zeros 32 (b % 8388608)) × (count_leading_zeros 32 (b % 8388608) ≤ 31)
zeros b h e =
    let t = top_of (b % 8388608) (omega arith) (omega arith) in
    (omega (arith, t.1, t.4), omega (arith, t.1))

pub overflow_sub-s : goal.overflow_sub-s
overflow_sub-s c = omega (arith, (zeros c.args.b c.requires.0 c.if-field-eq0.true).0)

pub overflow_shl-low : goal.overflow_shl-low
overflow_shl-low c = omega (arith, (zeros c.args.b c.requires.0 c.if-field-eq0.true).1)

pub overflow_sub-result : goal.overflow_sub-result
overflow_sub-result c = omega (arith, (zeros c.args.b c.requires.0 c.if-field-eq0.true).1)

pub returns-then-field-eq0 : goal.returns-then-field-eq0
returns-then-field-eq0 c =
    let b = c.args.b in
    let e : b % 8388608 ≡ b = omega arith in
    rw c.from.ensures (subst (λ (t : ℕ). Split b ((t * 2 ^ (count_leading_zeros 32 t - 8)) % 2 ^ 32) (24 - (count_leading_zeros 32 t - 8))) (sym e)
    (shifted b (count_leading_zeros 32 b - 8) (omega arith) (omega arith) refl))

pub returns-else-field-eq0 : goal.returns-else-field-eq0
returns-else-field-eq0 c = rw c.from-else-field-eq0.ensures (normal c.args.b (omega arith) (omega arith))
