-- WHAT THE DOORS SHOW, in words: a row whose bounds are in order and within the last row offset is its slots, with the columns that stand there;
-- any other row has no block. What stands behind the pattern's own places is never shown.
use Rattle.std.specs.Prelude.{ℕ, ◌+◌, ◌-◌, ◌≤◌, ◌<◌, ◌≡◌, List, Ok}
use Rattle.law.specs.Limit.{absent}
use Rattle.law.specs.Refusal.{verdict}
use Rattle.matrix_shape.specs.Rows.{at}
use Rattle.matrix_row_view.specs.Showing.{In, given, slots_from, slots_of, column_of, refusals}

-- where the row asked for starts and ends, by the row offsets as they stand
abbrev pub start : In → ℕ
start i = at i.row_offsets i.row

abbrev pub end : In → ℕ
end i = at i.row_offsets (i.row + 1)

-- its bounds neither fall nor pass the last row offset
abbrev pub Lies : In → Type 0
Lies i = (start i ≤ end i) × (end i ≤ at i.row_offsets i.n)

pub record Shows (i : In) : Type 0 where
  pub slots : Lies i → slots_of i ≡ slots_from (start i) (end i - start i)
  pub column : Lies i → (j : ℕ) → j < end i - start i → column_of i j ≡ at i.cols (start i + j)
  pub past : Lies i → (j : ℕ) → end i - start i ≤ j → column_of i j ≡ absent
  pub no_slots : (Lies i → ⊥) → slots_of i ≡ slots_from 0 0
  pub no_column : (Lies i → ⊥) → (j : ℕ) → column_of i j ≡ absent

-- A LONGER LIST'S REST IS NEVER SHOWN: whatever stands behind the lists of an accepted call, its outcome is the same
module _ (n : ℕ) (starts cols : List ℕ) (row : ℕ) (more rest : List ℕ) (accepted : verdict (refusals (given n starts cols row)) ≡ Ok tt) where
  abbrev pub i : In
  i = given n starts cols row
