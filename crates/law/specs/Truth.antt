-- What a test's answer says: the sides of `&&` and `||`, the two ways of a branch, and that a number is below another or is not, equals it or does not.
use Rattle.std.specs.Prelude.{ℕ, ◌≤◌, ◌<◌, ◌≡◌, refl, Bool, true, false, not, ◌&&◌, ◌||◌, ◌⊎◌, ltb, eqb}
use Rattle.std.proofs.Common.{sym, inl, inr, arith, ltb-true, ltb-false, eqb-true}
use Rattle.std.proofs.lemmas.Bool.{eqb-false, not-true, not-false}

-- both sides of an `&&` that holds
pub both : (a b : Bool) → (a && b) ≡ true → (a ≡ true) × (b ≡ true)
both true b h = (refl, h)
both false b h = (h, cc)

pub and_true : (a b : Bool) → a ≡ true → b ≡ true → (a && b) ≡ true
and_true a b p q = rw (p, q)

-- one side of an `||` that holds
pub either : (a b : Bool) → (a || b) ≡ true → (a ≡ true) ⊎ (b ≡ true)
either true b h = inl refl
either false b h = inr h

pub or_left : (a b : Bool) → a ≡ true → (a || b) ≡ true
or_left a b h = rw h

pub or_right : (a b : Bool) → b ≡ true → (a || b) ≡ true
or_right true b h = refl
or_right false b h = h

-- a branch `if !f(..) { .. }`, taken and passed by: x is f's result, t the test that f ensures it to be
pub refused : (x t : Bool) → x ≡ t → not x ≡ true → t ≡ false
refused x t e h = cc (not-true x h)

pub passed : (x t : Bool) → x ≡ t → not x ≡ false → t ≡ true
passed x t e h = cc (not-false x h)

-- a test has one of two answers, and not both
pub holds_or : (t : Bool) → (t ≡ true) ⊎ (t ≡ false)
holds_or true = inl refl
holds_or false = inr refl

pub clash : (t : Bool) → t ≡ false → t ≡ true → ⊥
clash true u v = let z : ◌≡◌ {A = ℕ} 0 1 = cc in omega arith
clash false u v = let z : ◌≡◌ {A = ℕ} 0 1 = cc in omega arith

-- a test that can't hold
pub untrue : (t : Bool) → (t ≡ true → ⊥) → t ≡ false
untrue true h = absurd (h refl)
untrue false h = refl

pub below_or : (j n : ℕ) → (j < n) ⊎ (n ≤ j)
below_or j n = pick (ltb j n) refl
  where
    pick : (t : Bool) → ltb j n ≡ t → (j < n) ⊎ (n ≤ j)
    pick true e = inl (ltb-true j n e)
    pick false e = inr (ltb-false j n e)

pub same_or : (j n : ℕ) → (j ≡ n) ⊎ (j ≡ n → ⊥)
same_or j n = pick (eqb j n) refl
  where
    pick : (t : Bool) → eqb j n ≡ t → (j ≡ n) ⊎ (j ≡ n → ⊥)
    pick true e = inl (eqb-true j n e)
    pick false e = inr (eqb-false j n e)

-- tests that pass together are the same
pub alike : (x y : Bool) → (x ≡ true → y ≡ true) → (y ≡ true → x ≡ true) → x ≡ y
alike true y h g = sym (h refl)
alike false true h g = g refl
alike false false h g = refl
