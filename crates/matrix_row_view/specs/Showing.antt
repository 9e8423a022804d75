-- THE DOORS THAT SHOW A ROW: `row_span`, `row_col` and `row_slot`. They change nothing, so the answer is all that they leave.
use Rattle.std.specs.Prelude.{ℕ, ◌+◌, ◌≤◌, ◌<◌, true, List, [], ◌∷◌, leb, ltb, length, take, Result, Ok, Err}
use Rattle.std.proofs.Common.{arith}
use Rattle.law.specs.Limit.{particles}
use Rattle.law.specs.declared.refusal.Refusal.{Refusal}
use Rattle.law.specs.declared.refusal.Refusal.TheVariants.{TooManyParticles, ShortBuffer, OutOfRange}
use Rattle.law.specs.Room.{Room, enough}
use Rattle.law.specs.Refusal.{Test, unless, Rising}
use Rattle.law.specs.Promise.{Door}
use Rattle.law.specs.Said.{Said}
use Rattle.matrix_shape.specs.Rows.{at}
use Rattle.matrix_shape.specs.Search.{search_of}
use Rattle.matrix_row.specs.Row.{span_of, row_first, row_cols, col_or}
use Rattle.matrix_row_view.specs.declared.Slots.{Slots}
use Rattle.matrix_row_view.specs.declared.rows.Rows.{Rows}
use Rattle.matrix_row_view.specs.Said.{spanned_said, seen_said, placed_said}

-- what the calls are handed; row_col is handed a block's place in the row besides, row_slot its column
pub record In : Type 0 where
  pub n : ℕ
  pub row_offsets : List ℕ
  pub cols : List ℕ
  pub row : ℕ

abbrev pub given : ℕ → List ℕ → List ℕ → ℕ → In
given n starts cols row = record { n = n; row_offsets = starts; cols = cols; row = row }

-- what the lent lists hold
abbrev pub handed : Rows → ℕ → In
handed p row = given p.n p.row_offsets.now p.cols.now row

pub record Out (A : Type 0) : Type 0 where
  pub answer : A
  pub said : Said

abbrev pub spanned : Result Slots Refusal → Out (Result Slots Refusal)
spanned r = record { answer = r; said = spanned_said r }

abbrev pub seen : Result ℕ Refusal → Out (Result ℕ Refusal)
seen r = record { answer = r; said = seen_said r }

abbrev pub placed : Result ℕ Refusal → Out (Result ℕ Refusal)
placed r = record { answer = r; said = placed_said r }

-- what each list needs, and what it has: as many columns as the last row offset says
unfoldable pub rows_room : ℕ → List ℕ → List ℕ → Room
rows_room n starts cols = (n + 1, length starts) ∷ (at starts n, length cols) ∷ []

-- THE REFUSALS
unfoldable pub refusals : In → List Test
refusals i =
    unless TooManyParticles (leb i.n particles)
    ∷ unless ShortBuffer (enough true (rows_room i.n i.row_offsets i.cols))
    ∷ unless OutOfRange (ltb i.row i.n)
    ∷ []

pub in_order : (i : In) → Rising 1 (refusals i)
unfolding refusals
in_order i = (omega arith, (omega arith, (omega arith, tt)))

-- the pattern's own part of the lists: a longer list's rest is never shown
abbrev pub own_starts : In → List ℕ
own_starts i = take (i.n + 1) i.row_offsets

abbrev pub own_cols : In → List ℕ
own_cols i = take (at i.row_offsets i.n) i.cols

abbrev pub slots_from : ℕ → ℕ → Slots
slots_from first len = record { first = first; len = len }

abbrev pub slots_of : In → Slots
slots_of i = slots_from (row_first (own_starts i) (own_cols i) i.row) (length (row_cols (own_starts i) (own_cols i) i.row))

abbrev pub column_of : In → ℕ → ℕ
column_of i j = col_or (row_cols (own_starts i) (own_cols i) i.row) j

-- the slot of the row's block with the column, by halves
abbrev pub slot_in : List ℕ → List ℕ → ℕ → ℕ → ℕ
slot_in starts cols r col = search_of (at cols) (span_of starts (length cols) r).from (span_of starts (length cols) r).to col

abbrev pub slot_of : In → ℕ → ℕ
slot_of i col = slot_in (own_starts i) (own_cols i) i.row col

abbrev pub span_door : Door In (Out (Result Slots Refusal))
span_door = record { tests = refusals; in_order = in_order; work = λ i. spanned (Ok (slots_of i)); refuse = λ k i. spanned (Err k) }

abbrev pub column_door : ℕ → Door In (Out (Result ℕ Refusal))
column_door j = record { tests = refusals; in_order = in_order; work = λ i. seen (Ok (column_of i j)); refuse = λ k i. seen (Err k) }

abbrev pub slot_door : ℕ → Door In (Out (Result ℕ Refusal))
slot_door col = record { tests = refusals; in_order = in_order; work = λ i. placed (Ok (slot_of i col)); refuse = λ k i. placed (Err k) }

-- what the work relies on
pub record Ready (i : In) : Type 0 where
  pub few : i.n ≤ particles
  pub places : i.n < length i.row_offsets
  pub columns : at i.row_offsets i.n ≤ length i.cols
  pub row : i.row < i.n
