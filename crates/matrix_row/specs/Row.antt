-- ONE ROW, SHOWN: its slots, its part of the column list, and what stands at a place of it. Total,
-- whatever the lists hold; over a well formed pattern the row shown is the row (`row_shown`).
use Rattle.std.specs.Prelude.{ℕ, ◌+◌, ◌-◌, ◌≤◌, ◌<◌, ◌≡◌, ◌&&◌, cond, List, ltb, leb, length, Option, Some, None}
use Rattle.law.specs.Store.{part}
use Rattle.law.specs.Limit.{absent}
use Rattle.matrix_shape.specs.Rows.{at}
use Rattle.matrix_row.specs.declared.inner.Span.{Span}

abbrev pub none : Span
none = record { from = 0; to = 0 }

-- row r of m columns: from its start to the next row's, where both stand in the list, in order and within the columns
abbrev pub span_of : List ℕ → ℕ → ℕ → Span
span_of starts m r =
    cond (ltb (r + 1) (length starts))
    (cond (leb (at starts r) (at starts (r + 1)) && leb (at starts (r + 1)) m) (record { from = at starts r; to = at starts (r + 1) }) none)
    none

abbrev pub row_first : List ℕ → List ℕ → ℕ → ℕ
row_first starts cols r = (span_of starts (length cols) r).from

abbrev pub row_cols : List ℕ → List ℕ → ℕ → List ℕ
row_cols starts cols r = part (span_of starts (length cols) r).from (span_of starts (length cols) r).to cols

abbrev pub col_or : List ℕ → ℕ → ℕ
col_or cols j = cond (ltb j (length cols)) (at cols j) absent

-- none too where the slot's number would not fit a usize
abbrev pub slot_or : List ℕ → ℕ → ℕ → Option ℕ
slot_or cols first j = cond (ltb j (length cols) && leb first (18446744073709551615 - j)) (Some (first + j)) None

-- THE ROW SHOWN IS ROW r: its first slot is the row's, it has a column for each of the row's slots, and its j-th column and slot are the row's
pub record Shown (starts cols : List ℕ) (r : ℕ) : Type 0 where
  pub first : row_first starts cols r ≡ at starts r
  pub long : length (row_cols starts cols r) ≡ at starts (r + 1) - at starts r
  pub column : (j : ℕ) → j < at starts (r + 1) - at starts r → col_or (row_cols starts cols r) j ≡ at cols (at starts r + j)
  -- a list that the code lends is no longer than this
  pub slot : (j : ℕ) → j < at starts (r + 1) - at starts r → length cols ≤ 18446744073709551615 → slot_or (row_cols starts cols r)
      (row_first starts cols r) j ≡ Some (at starts r + j)
