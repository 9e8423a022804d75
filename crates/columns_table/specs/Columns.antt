-- WHERE A COLUMN STANDS: 2n vectors for each loaded particle, axis k of column c from vector (2c + k)·n on; and the room for all of them.
use Rattle.std.specs.Prelude.{ℕ, ◌+◌, ◌*◌, ◌/◌, ◌≤◌, ◌<◌, ◌≡◌, true, List, leb, Float}
use Rattle.std.proofs.Common.{sym, arith, zero-mul, mul_comm, mul-le-mul_left, le-div_iff_mul-le, leb-true, le-leb}
use Rattle.law.specs.Truth.{alike}
use Rattle.law.specs.Store.{part}

-- the first float of axis k of column c
abbrev pub start_of : ℕ → ℕ → ℕ → ℕ
start_of n c k = 2 * ((2 * c + k) * n)

-- that column, 2n floats
abbrev pub column_of : ℕ → List Float → ℕ → ℕ → List Float
column_of n columns c k = part (start_of n c k) (start_of n c k + 2 * n) columns

-- the floats of all columns
abbrev pub columns_need : ℕ → ℕ → ℕ
columns_need n count = 4 * n * count

-- a loaded particle's columns end inside them
pub column_inside : (n c k count : ℕ) → c < count → k < 2 → start_of n c k + 2 * n ≤ columns_need n count
column_inside n c k count h g = omega (arith, mul-le-mul_left n below)
  where
    below : 2 * c + k + 1 ≤ 2 * count
    below = omega arith

-- ---- the room for them, as the code tests it

pub room_none : (n count room : ℕ) → n ≡ 0 → true ≡ leb (columns_need n count) room
room_none n count room h = let e : 4 * n * count ≡ 0 = rw h (zero-mul count) in sym (le-leb (4 * n * count) room (omega arith))

pub room_by : (n count room : ℕ) → (n ≡ 0 → ⊥) → leb count (room / (4 * n)) ≡ leb (columns_need n count) room
room_by n count room h =
    let i = le-div_iff_mul-le {k = 4 * n} {x = count} {y = room} (omega arith) in
    let e : count * (4 * n) ≡ 4 * n * count = mul_comm count (4 * n) in
    alike _ _ (λ t. le-leb _ _ (rw e at (i.0 (leb-true _ _ t)))) (λ t. le-leb _ _ (i.1 (rw e (leb-true _ _ t))))
