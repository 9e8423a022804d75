-- The branches of `root`, each from the tests that lead there: what they say of the value, and that the branch answers `sqrt_of`. Assumes nothing.
use mathlib.Core.Path.{◌≡◌, refl, sym, ap, ◌∙◌, subst}
use mathlib.Core.Bool.{Bool, true, false, not, ◌&&◌, ◌||◌, beq, true≢false, false≢true}
use Prim.Native.Nat.{ℕ, zero, suc, ◌+◌, ◌*◌, ◌<◌}
use native.Mathlib.Nat.{zero-mul, mul-pos, zero-lt-suc}
use native.Mathlib.Omega.{arith}
use lib.IntN.{ℤ, pos}
use lib.Dec.{T, eqb, ltb→lt, eqb→eq}
use lib.Ieee.{Float, nan, inf, fin, binary32, up, down, eq, lt, ne, div, is_nan, fits, of_bits, to_bits, nan_bits}
use lib.Ieee.Fits.{up_pos, and_l}
use lib.Ieee.Bits.{of_bits-to_bits, nan_bits_is}
use lib.Ieee.Compare.{differs_from_itself, nan_differs}
use lib.Ieee.Exact.{HasValue}
use borrow.Author.Tests.{lt-ltb, eq-eqb}
use Rattle.root.specs.Sqrt.{sqrt_of}
use Rattle.root.proofs.Fixed.{root_of_nan, root_of_infinity}
use Rattle.root.proofs.Values.{zero_is, pattern_lt, pattern_pos}
use Rattle.root.proofs.Splitting.{split_of}
use Rattle.root.proofs.Pattern.{root_units_lem, root_fits}

abbrev plus_zero : Float
plus_zero = fin false 0 (pos 0)

is_T : {b : Bool} → b ≡ true → T b
is_T e = subst T (sym e) tt

clash : {A : Type 0} (b : Bool) → b ≡ true → b ≡ false → A
clash b p q = absurd (true≢false (sym p ∙ q))

zero_product : (u d : ℕ) → 0 * u * d ≡ 0
zero_product u d = ap (λ (x : ℕ). x * d) (zero-mul u) ∙ zero-mul d

size_pos : (m : ℕ) (e : ℤ) → 0 < suc m * up e * 1
size_pos m e = mul-pos (mul-pos (zero-lt-suc m) (up_pos e)) (zero-lt-suc 0)

apart : (a b : ℕ) → 0 < a → b ≡ 0 → a ≡ b → ⊥
apart a b p q e = omega arith

not_below : (a b : ℕ) → b ≡ 0 → a < b → ⊥
not_below a b q l = omega arith

not_sum : (a b : ℕ) → a ≡ 0 → b ≡ 0 → 0 < a + b → ⊥
not_sum a b p q l = omega arith

sum_above : (a b : ℕ) → 0 < a → 0 < a + b
sum_above a b p = omega arith

-- x == 0.0
zero_is_root : (x : Float) → eq x plus_zero ≡ true → x ≡ sqrt_of x
unfolding eq sqrt_of
zero_is_root nan h = absurd (false≢true h)
zero_is_root (inf s) h = absurd (false≢true h)
zero_is_root (fin s zero e) h = refl
zero_is_root (fin s (suc m) e) h =
    absurd (apart (suc m * up e * 1) (0 * 1 * down e) (size_pos m e) (zero_product 1 (down e))
    (eqb→eq (suc m * up e * 1) (0 * 1 * down e) (and_l (eqb (suc m * up e * 1) (0 * 1 * down e)) (beq s false || eqb (suc m * up e * 1) 0) (is_T h))))

pub zero_branch : (x : Float) → eq x (of_bits binary32 0) ≡ true → x ≡ sqrt_of x
zero_branch x h = zero_is_root x (ap (eq x) (sym zero_is) ∙ h)

-- x < 0.0
negative_is_nan : (x : Float) → lt x plus_zero ≡ true → sqrt_of x ≡ nan
unfolding lt sqrt_of
negative_is_nan nan h = refl
negative_is_nan (inf true) h = refl
negative_is_nan (inf false) h = absurd (false≢true h)
negative_is_nan (fin true zero e) h = absurd (not_sum (0 * up e * 1) (0 * 1 * down e) (zero_product (up e) 1) (zero_product 1 (down e))
    (ltb→lt 0 (0 * up e * 1 + 0 * 1 * down e) (is_T h)))
negative_is_nan (fin true (suc m) e) h = refl
negative_is_nan (fin false m e) h = absurd (not_below (m * up e * 1) (0 * 1 * down e) (zero_product 1 (down e))
    (ltb→lt (m * up e * 1) (0 * 1 * down e) (is_T h)))

quotient : div binary32 (of_bits binary32 0) (of_bits binary32 0) ≡ nan
unfolding div of_bits
quotient = refl

pub negative_branch : (x : Float) → lt x (of_bits binary32 0) ≡ true → div binary32 (of_bits binary32 0) (of_bits binary32 0) ≡ sqrt_of x
negative_branch x h = quotient ∙ sym (negative_is_nan x (ap (lt x) (sym zero_is) ∙ h))

-- x != x
pub nan_branch : (x : Float) → ne x x ≡ true → x ≡ sqrt_of x
nan_branch x h = subst (λ (y : Float). y ≡ sqrt_of y) (sym (differs_from_itself x (is_T h))) (sym root_of_nan)

pub not_nan : (x : Float) → ne x x ≡ false → T (not (is_nan x))
unfolding is_nan
not_nan nan h = clash (ne nan nan) nan_differs h
not_nan (inf s) h = tt
not_nan (fin s m e) h = tt

-- the pattern of +inf
inf_is : of_bits binary32 2139095040 ≡ inf false
unfolding of_bits
inf_is = refl

inf_bits : to_bits binary32 (inf false) ≡ 2139095040
unfolding to_bits
inf_bits = refl

pub infinity_branch : (x : Float) → T (fits binary32 x) → to_bits binary32 x ≡ 2139095040 → x ≡ sqrt_of x
infinity_branch x f h = subst (λ (y : Float). y ≡ sqrt_of y) (sym (sym (of_bits-to_bits binary32 x f) ∙ ap (of_bits binary32) h ∙ inf_is)) (sym root_of_infinity)

-- what the tests leave are the patterns of the positive finite values
positive_left : (x : Float) → T (fits binary32 x) → eq x plus_zero ≡ false → lt x plus_zero ≡ false → ne x x ≡ false
    → (to_bits binary32 x ≡ 2139095040 → ⊥) → (0 < to_bits binary32 x) × (to_bits binary32 x < 2139095040)
unfolding eq lt
positive_left nan f a b c d = clash (ne nan nan) nan_differs c
positive_left (inf true) f a b c d = absurd (true≢false b)
positive_left (inf false) f a b c d = absurd (d inf_bits)
positive_left (fin s zero e) f a b c d =
    absurd (true≢false (sym (both s (0 * up e * 1) (0 * 1 * down e) (zero_product (up e) 1) (zero_product 1 (down e))) ∙ a))
  where
    both : (s : Bool) (u v : ℕ) → u ≡ 0 → v ≡ 0 → (eqb u v && (beq s false || eqb u 0)) ≡ true
    both true u v p q = ap (λ (t : Bool). t && eqb u 0) (eq-eqb u v (p ∙ sym q)) ∙ eq-eqb u 0 p
    both false u v p q = ap (λ (t : Bool). t && true) (eq-eqb u v (p ∙ sym q))
positive_left (fin true (suc m) e) f a b c d = absurd
    (true≢false (sym (lt-ltb 0 (suc m * up e * 1 + 0 * 1 * down e) (sum_above (suc m * up e * 1) (0 * 1 * down e) (size_pos m e))) ∙ b))
positive_left (fin false (suc m) e) f a b c d = (pattern_pos m e f, pattern_lt (suc m) e f)

pub positive_branch : (x : Float) → T (fits binary32 x) → eq x (of_bits binary32 0) ≡ false → lt x (of_bits binary32 0) ≡ false → ne x x ≡ false
    → (to_bits binary32 x ≡ 2139095040 → ⊥) → (0 < to_bits binary32 x) × (to_bits binary32 x < 2139095040)
positive_branch x f a b c d = positive_left x f (ap (eq x) (sym zero_is) ∙ a) (ap (lt x) (sym zero_is) ∙ b) c d

valued : (x : Float) (n c : ℕ) → HasValue x false n c → is_nan x ≡ false
unfolding is_nan
valued nan n c v = absurd v
valued (inf s) n c v = absurd v
valued (fin s m e) n c v = refl

-- the pattern that `root_bits` makes stands for the root, and is no NaN's
pub root_branch : (x : Float) (r : ℕ) → T (fits binary32 x) → 0 < to_bits binary32 x → to_bits binary32 x < 2139095040
    → r ≡ to_bits binary32 (sqrt_of (of_bits binary32 (to_bits binary32 x)))
    → (of_bits binary32 r ≡ sqrt_of x) × T (not (nan_bits binary32 r))
root_branch x r f p h e =
    let b = to_bits binary32 x in
    let z = split_of b p h in
    let v = sqrt_of (of_bits binary32 b) in
    let back : of_bits binary32 r ≡ v = ap (of_bits binary32) e ∙ of_bits-to_bits binary32 v (root_fits b z.0 z.1 p h z.2) in (
      back ∙ ap sqrt_of (of_bits-to_bits binary32 x f),
      subst (λ (t : Bool). T (not t))
          (sym (nan_bits_is binary32 r ∙ ap is_nan back ∙ valued v _ _ (root_units_lem b z.0 z.1 p h z.2))) tt,
    )
