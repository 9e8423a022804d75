-- WHAT A PASS DOES with each byte: where it stands next, and what it stores. That this comes to the text's numbers is proved in Scanning.antt.
use Rattle.std.specs.Prelude.{ℕ, ◌+◌, ◌-◌, ◌*◌, cond, List, length, get_or, set, leb, Option, None, Some}
use Rattle.law.specs.Loop.{over}
use Rattle.bench_scan.specs.Numbers.{is_gap, is_digit, small}
use Rattle.bench_scan.specs.declared.inner.Stand.{Stand}
use Rattle.bench_scan.specs.declared.inner.Stand.TheVariants.{Gap, Word}

-- where a pass stands, if its text is not bad
abbrev pub Scan : Type 0
Scan = Option Stand

-- how many numbers have ended
abbrev pub count_of : Scan → ℕ
count_of None = 0
count_of (Some (Gap k)) = k
count_of (Some (Word k v)) = k

-- a value goes on unless it is too large
unfoldable pub kept : ℕ → ℕ → Scan
kept k w = cond (small w) (Some (Word k w)) None

unfoldable pub from_gap : ℕ → ℕ → Scan
from_gap b k = cond (is_gap b) (Some (Gap k)) (cond (is_digit b) (Some (Word k (b - 48))) None)

unfoldable pub from_word : ℕ → ℕ → ℕ → Scan
from_word b k v = cond (is_gap b) (Some (Gap (k + 1))) (cond (is_digit b) (kept k (v * 10 + (b - 48))) None)

unfoldable pub step_to : ℕ → Scan → Scan
step_to b None = None
step_to b (Some (Gap k)) = from_gap b k
step_to b (Some (Word k v)) = from_word b k v

-- the number k of the text, counting from 0, is stored unless it is one of the first `from` or past the room
unfoldable pub place_to : ℕ → ℕ → ℕ → List ℕ → List ℕ
place_to from k v room = cond (leb from k) (set room (k - from) v) room

-- what the room holds once the byte b has come
unfoldable pub room_to : ℕ → ℕ → Scan → List ℕ → List ℕ
room_to from b None room = room
room_to from b (Some (Gap k)) room = room
room_to from b (Some (Word k v)) room = cond (is_gap b) (place_to from k v room) room

abbrev pub State : Type 0
State = Scan × List ℕ

unfoldable pub state_to : ℕ → ℕ → State → State
state_to from b s = (step_to b s.0, room_to from b s.0 s.1)

-- a text, and a space after it
unfoldable pub scan_to : ℕ → List ℕ → List ℕ → State
scan_to from text room = state_to from 32 (over (λ k. state_to from (get_or text k 0)) 0 (length text) (Some (Gap 0), room))
