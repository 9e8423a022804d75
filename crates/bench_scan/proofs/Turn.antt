-- One turn of a pass: how far the count goes, and that the room stays as long as it was.
use Prim.Native.Nat.{zero-le, ℕ, ◌+◌, ◌-◌, ◌*◌, ◌≤◌, ◌<◌}
use mathlib.Core.Path.{◌≡◌, refl, ap}
use mathlib.Core.Bool.{Bool, true, false, cond}
use mathlib.Core.List.{List}
use native.Mathlib.Omega.{arith}
use lib.ListN.{length, get_or, length-set}
use lib.Dec.{leb}
use Rattle.law.specs.Loop.{over}
use Rattle.law.proofs.Loop.{over_turn, over_stays}
use Rattle.bench_scan.specs.Numbers.{is_gap, is_digit, small}
use Rattle.bench_scan.specs.Scan.{Scan, count_of, kept, from_gap, from_word, step_to, place_to, room_to, State, state_to, scan_to}
use Rattle.std.specs.Prelude.{None, Some}
use Rattle.bench_scan.specs.declared.inner.Stand.TheVariants.{Gap, Word}

either_count : (t : Bool) (x y : Scan) (m : ℕ) → count_of x ≤ m → count_of y ≤ m → count_of (cond t x y) ≤ m
either_count true x y m p q = p
either_count false x y m p q = q

-- one byte ends at most one number
step_count : (b : ℕ) (s : Scan) → count_of (step_to b s) ≤ count_of s + 1
unfolding step_to from_gap from_word kept
step_count b None = omega arith
step_count b (Some (Gap k)) = either_count (is_gap b) _ _ _ (omega arith) (either_count (is_digit b) _ _ _ (omega arith) (omega arith))
step_count b (Some (Word k v)) =
    either_count (is_gap b) _ _ _ (omega arith)
    (either_count (is_digit b) _ _ _ (either_count (small (v * 10 + (b - 48))) _ _ _ (omega arith) (omega arith)) (omega arith))

pub count_after : (b i : ℕ) (s t : Scan) → t ≡ step_to b s → count_of s ≤ i → count_of t ≤ i + 1
count_after b i s t e h = rw e (omega (arith, step_count b s))

either_long : (t : Bool) (x y : List ℕ) (m : ℕ) → length x ≡ m → length y ≡ m → length (cond t x y) ≡ m
either_long true x y m p q = p
either_long false x y m p q = q

pub room_long : (from b : ℕ) (s : Scan) (room : List ℕ) → length (room_to from b s room) ≡ length room
unfolding room_to place_to
room_long from b None room = refl
room_long from b (Some (Gap k)) room = refl
room_long from b (Some (Word k v)) room =
    either_long (is_gap b) _ _ _ (either_long (leb from k) _ _ _ (length-set room (k - from) v) refl) refl

-- after the last byte, the space
pub scan_end : (from : ℕ) (text room : List ℕ) (s t : Scan) (r z : List ℕ)
    → ◌≡◌ {A = State} (s, r) (over (λ k. state_to from (get_or text k 0)) 0 (length text) (Some (Gap 0), room))
    → t ≡ step_to 32 s → z ≡ room_to from 32 s r → ◌≡◌ {A = State} (t, z) (scan_to from text room)
unfolding scan_to state_to
scan_end from text room s t r z e p q = rw (p, q) (ap (state_to from 32) e)

-- a bad text is one at its first fault, and the room stays as it is there
pub scan_bad : (from : ℕ) (text room : List ℕ) (i b : ℕ) (s : Scan) (r z : List ℕ) → i < length text → b ≡ get_or text i 0
    → ◌≡◌ {A = State} (s, r) (over (λ k. state_to from (get_or text k 0)) 0 i (Some (Gap 0), room))
    → None ≡ step_to b s → z ≡ room_to from b s r → ◌≡◌ {A = State} (None, z) (scan_to from text room)
unfolding scan_to state_to step_to room_to
scan_bad from text room i b s r z l q e p h =
    let f : ℕ → State → State = λ k. state_to from (get_or text k 0) in
    let start : State = (Some (Gap 0), room) in
    let bad : State = (None, z) in
    let turn : bad ≡ f i (s, r) = rw (← q, ← p, h) in
    ap (state_to from 32) (over_stays f 0 (i + 1) (length text) start bad (over_turn f 0 i start (s, r) bad zero-le e turn) (λ j. refl) zero-le (omega (arith, l)))
