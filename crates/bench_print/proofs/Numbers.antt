-- Writing a number: one digit, or its tenth's digits and one more.
use Prim.Native.Nat.{ℕ, ◌+◌, ◌/◌, ◌%◌, ◌≤◌, ◌<◌}
use mathlib.Core.Path.{◌≡◌, ap}
use mathlib.Core.List.{List, [], ◌∷◌}
use native.Mathlib.Omega.{arith}
use native.Mathlib.Nat.{mod-lt}
use lib.ListN.{length, set}
use Rattle.law.specs.Put.{Put, put_one, put_both, room_first, room_second}
use Rattle.bench_print.specs.Digits.{digits}
use Rattle.bench_print.proofs.Digits.{digits_one, digits_more, tenth}

pub tenth_less : (n : ℕ) {t : ℕ} → 10 ≤ n → n ≡ t → n / 10 < t
tenth_less n h e = omega (arith, tenth n h)

pub last_digit : (n : ℕ) → n % 10 < 10
last_digit n = mod-lt n (omega arith)

-- the room
pub one_fits : (n at m : ℕ) → at + length (digits n) ≤ m → n < 10 → at < m
one_fits n at m fits h = omega (arith, ap length (digits_one n h))

pub tenth_fits : (n at m : ℕ) → at + length (digits n) ≤ m → 10 ≤ n → at + length (digits (n / 10)) ≤ m
tenth_fits n at m fits h = room_first (digits (n / 10)) ((48 + n % 10) ∷ []) at m (rw (digits_more n h) at fits)

pub last_fits : (n at r : ℕ) (old mid : List ℕ) → at + length (digits n) ≤ length old → 10 ≤ n → Put (digits (n / 10)) at old mid r → r < length mid
last_fits n at r old mid fits h p =
    omega (arith, room_second (digits (n / 10)) ((48 + n % 10) ∷ []) old mid at r (rw (digits_more n h) at fits) p)

-- the stores
pub one_put : (n at : ℕ) (out : List ℕ) → n < 10 → Put (digits n) at out (set out at (48 + n)) (at + 1)
one_put n at out h = rw (digits_one n h) (put_one (48 + n) out at)

pub more_put : (n at r : ℕ) (old mid : List ℕ) → 10 ≤ n → Put (digits (n / 10)) at old mid r → Put (digits n) at old (set mid r (48 + n % 10)) (r + 1)
more_put n at r old mid h p =
    rw (digits_more n h) (put_both (digits (n / 10)) ((48 + n % 10) ∷ []) old mid _ at r _ p (put_one (48 + n % 10) mid r))
