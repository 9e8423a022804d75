-- The whole number nearest to a root: the root's whole part q where the rest n - q * q is at most
-- q, and q + 1 otherwise. `no_tie`: the root is never half-way. Assumes nothing.
use mathlib.Core.Path.{◌≡◌, refl, sym, ap, ◌∙◌}
use mathlib.Core.Logic.{◌⊎◌, inl, inr}
use mathlib.Core.Bool.{Bool, true, false, not}
use Prim.Native.Nat.{ℕ, suc, ◌+◌, ◌-◌, ◌*◌, ◌≤◌, ◌<◌, compare, Ordering}
use native.Mathlib.Nat.{le_of_eq, le_of_lt, add-mul, mul-add, mul-mul-mul_comm}
use native.Mathlib.Omega.{arith}
use lib.Dec.{T, leb, is_le, compare_is_eq, leb→le, nleb→lt, eqb→eq}
use lib.Ieee.{nearest}
use Rattle.root.specs.Whole.{root_of, nearest_root}

-- ---- what `compare` answers

clash : (a b : ℕ) → a < b → b ≤ a → ⊥
clash a b h k = omega arith

pub compare_lt : (a b : ℕ) → a < b → compare a b ≡ Ordering.lt
compare_lt a b h = go (compare a b) (nleb→lt a b) (eqb→eq a b)
  where
    go : (o : Ordering) → (T (not (is_le o)) → b < a) → (T (compare_is_eq o) → a ≡ b) → o ≡ Ordering.lt
    go Ordering.lt k e = refl
    go Ordering.eq k e = absurd (clash a b h (le_of_eq (sym (e tt))))
    go Ordering.gt k e = absurd (clash a b h (le_of_lt (k tt)))

pub compare_gt : (a b : ℕ) → b < a → compare a b ≡ Ordering.gt
compare_gt a b h = go (compare a b) (leb→le a b) (eqb→eq a b)
  where
    go : (o : Ordering) → (T (is_le o) → a ≤ b) → (T (compare_is_eq o) → a ≡ b) → o ≡ Ordering.gt
    go Ordering.lt k e = absurd (clash b a h (k tt))
    go Ordering.eq k e = absurd (clash b a h (le_of_eq (e tt)))
    go Ordering.gt k e = refl

-- ---- the middle between q and q + 1, doubled and squared

abbrev pub middle : ℕ → ℕ
middle q = (q * 2 + 1) * (q * 2 + 1)

pub middle_is : (q : ℕ) → middle q ≡ q * q * 4 + q * 4 + 1
middle_is q =
    let rows : middle q ≡ q * 2 * (q * 2 + 1) + 1 * (q * 2 + 1) = add-mul (q * 2) 1 (q * 2 + 1) in
    let row : q * 2 * (q * 2 + 1) ≡ q * 2 * (q * 2) + q * 2 * 1 = mul-add (q * 2) (q * 2) 1 in
    let corner : q * 2 * (q * 2) ≡ q * q * 4 = mul-mul-mul_comm q 2 q 2 in
    omega arith

-- four times a whole number is even, and the square of 2 * q + 1 is odd
pub no_tie : (n q : ℕ) → n * 4 ≡ middle q → ⊥
no_tie n q h = omega (arith, middle_is q)

under : (n q : ℕ) → n ≤ q * q + q → n * 4 < middle q
under n q h = omega (arith, middle_is q)

over : (n q : ℕ) → q * q + q < n → middle q < n * 4
over n q h = omega (arith, middle_is q)

-- ---- the test on the rest

nearest_is : (n q : ℕ) → q ≡ root_of n → nearest_root n ≡ nearest q (compare (n * 4) (middle q))
unfolding nearest_root
nearest_is n q e = ap (λ (x : ℕ). nearest x (compare (n * 4) (middle x))) (sym e)

pub stays : (n q : ℕ) → q ≡ root_of n → n - q * q ≤ q → q ≡ nearest_root n
stays n q e h =
    let l : n ≤ q * q + q = omega arith in
    sym (nearest_is n q e ∙ ap (nearest q) (compare_lt (n * 4) (middle q) (under n q l)))

pub moves : (n q : ℕ) → q ≡ root_of n → q < n - q * q → suc q ≡ nearest_root n
moves n q e h =
    let l : q * q + q < n = omega arith in
    sym (nearest_is n q e ∙ ap (nearest q) (compare_gt (n * 4) (middle q) (over n q l)))

-- The two cases, with what holds in each: the nearest number g is q, and the root is
-- below the middle of q and q + 1; or g is q + 1, and the root is above it.
abbrev pub Cases : ℕ → ℕ → ℕ → Type 0
Cases n q g = ((g ≡ q) × (n * 4 < middle q)) ⊎ ((g ≡ suc q) × (middle q < n * 4))

pub cases : (n : ℕ) → Cases n (root_of n) (nearest_root n)
cases n = go (root_of n) refl
  where
    low : (q : ℕ) → n - q * q ≤ q → n ≤ q * q + q
    low q h = omega arith

    high : (q : ℕ) → q < n - q * q → q * q + q < n
    high q h = omega arith

    pick : (q : ℕ) → q ≡ root_of n → (b : Bool) → (T b → n - q * q ≤ q) → (T (not b) → q < n - q * q) → Cases n q (nearest_root n)
    pick q e true h k = inl (sym (stays n q e (h tt)), under n q (low q (h tt)))
    pick q e false h k = inr (sym (moves n q e (k tt)), over n q (high q (k tt)))

    go : (q : ℕ) → q ≡ root_of n → Cases n q (nearest_root n)
    go q e = pick q e (leb (n - q * q) q) (leb→le (n - q * q) q) (nleb→lt (n - q * q) q)
