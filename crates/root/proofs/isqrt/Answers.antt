use mathlib.Core.Path.{◌≡◌, ◌∙◌}
use Prim.Native.Nat.{ℕ, ◌+◌, ◌-◌, ◌*◌, ◌/◌, ◌%◌, ◌^◌, ◌≤◌, ◌<◌}
use native.Mathlib.Nat.{lt_trans, lt_of_lt_of_le, le_of_suc-le-suc, mul-le-mul, one-mul}
use native.Mathlib.Numerals.{add-one}
use native.Mathlib.Omega.{arith}
use lib.Dec.{lit<}
use Rattle.std.proofs.Math.Facts.{Fits-lt-pow}
use lib.Pow.{pow_pos, pow_mono, shl_exact}
use lib.Count.{count_leading_zeros, leading_le, leading_length}
use Rattle.root.proofs.Whole.{within_root}
use Rattle.root.proofs.Newton.{newton_above, newton_below, root_pos, quotient_below, half_length}
use Rattle.root.proofs.isqrt.Invariants.{Guess}
use Rattle.root.proofs.isqrt.Goals as goal

-- ---- the first guess
abbrev shift : ℕ → ℕ
shift n = (65 - count_leading_zeros 64 n) / 2

shift_le : (n : ℕ) → shift n ≤ 32
shift_le n = omega arith

-- 2 ^ shift is above the root
start_above : (n : ℕ) → n < 2 ^ 64 → n < 2 ^ shift n * 2 ^ shift n
start_above n h =
    let l = leading_length 64 n h in
    half_length n l.0 (shift n) l.2 (omega (arith, l.1))

start_is : (n : ℕ) → (1 * 2 ^ shift n) % 2 ^ 64 ≡ 2 ^ shift n
start_is n = shl_exact 1 (shift n) 64 (lit< tt) (omega arith) ∙ one-mul (2 ^ shift n)

first : (n : ℕ) → n < 2 ^ 64 → Guess n ((2 ^ shift n + n / 2 ^ shift n) / 2)
first n h =
    (newton_above n (2 ^ shift n) (pow_pos (shift n)), lt_of_lt_of_le (newton_below n (2 ^ shift n) (start_above n h)) (pow_mono (shift_le n)))

pub overflow_sub-s : goal.overflow_sub-s
overflow_sub-s c = omega (arith, leading_le 64 c.args.n)

pub overflow_shl-r : goal.overflow_shl-r
overflow_shl-r c = omega (arith, shift_le c.args.n)

pub overflow_shr-r : goal.overflow_shr-r
overflow_shr-r c = omega (arith, shift_le c.args.n)

pub overflow_add-r : goal.overflow_add-r
overflow_add-r c =
    let n = c.args.n in
    let h : 2 ^ shift n ≤ 2 ^ 32 = pow_mono (shift_le n) in
    omega (arith, start_is n, quotient_below n (2 ^ shift n) (start_above n (Fits-lt-pow c.ranges.n)))

pub loop-r-init : goal.loop-r-init
loop-r-init c = rw (start_is c.args.n) (first c.args.n (Fits-lt-pow c.ranges.n))

-- a square of such a guess fits a word
fitting : (r : ℕ) → r < 2 ^ 32 → r * r ≤ 18446744065119617025
fitting r h = mul-le-mul (le_of_suc-le-suc h) (le_of_suc-le-suc h)

pub overflow_mul-r : goal.overflow_mul-r
overflow_mul-r c = omega (arith, fitting c.loop-r.r c.loop-r.invariant.1)

pub nonzero_div-r-in-loop-r : goal.nonzero_div-r-in-loop-r
nonzero_div-r-in-loop-r c = root_pos _ _ c.loop-r-test.true

pub overflow_add-r-in-loop-r : goal.overflow_add-r-in-loop-r
overflow_add-r-in-loop-r c = omega (arith, quotient_below _ _ c.loop-r-test.true)

pub loop-r-smaller : goal.loop-r-smaller
loop-r-smaller c = newton_below _ _ c.loop-r-test.true

pub loop-r-preserved : goal.loop-r-preserved
loop-r-preserved c =
    let above = c.loop-r-test.true in
    (newton_above _ _ (root_pos _ _ above), lt_trans (newton_below _ _ above) c.loop-r.invariant.1)

pub returns : goal.returns
returns c = within_root _ _ (c.loop-r-test.false, rw add-one at c.loop-r.invariant.0)
