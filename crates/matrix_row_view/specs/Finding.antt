-- WHAT `row_slot` FINDS, in words, by the lists as they stand: a slot of the row that has the column; and where the row's columns rise strictly, none only
-- where no slot has it. Over a well formed pattern it finds what `block_index` does.
use Rattle.std.specs.Prelude.{ℕ, ◌≡◌, List}
use Rattle.law.specs.Limit.{absent}
use Rattle.matrix_shape.specs.Formed.{InRow, Stored}
use Rattle.matrix_shape.specs.Rows.{at, Pattern}
use Rattle.matrix_shape.specs.Index.{Strict, index_of}
use Rattle.matrix_row_view.specs.Showing.{In, slot_of}
use Rattle.matrix_row_view.specs.Meaning.{start, end, Lies}

-- some slot of the row has the column
abbrev pub Has : In → ℕ → Type 0
Has i col = Stored (at i.row_offsets) (at i.cols) i.row col

pub record Finds (i : In) (col : ℕ) : Type 0 where
  -- what is found is a slot of the row, and has the column
  pub found : (slot_of i col ≡ absent → ⊥) → InRow (at i.row_offsets) i.row (slot_of i col) × (at i.cols (slot_of i col) ≡ col)
  -- nothing is found where no slot has the column, nor in a row whose bounds fall or pass the last row offset
  pub none : (Has i col → ⊥) → slot_of i col ≡ absent
  pub no_row : (Lies i → ⊥) → slot_of i col ≡ absent
  -- where the row's columns rise strictly, a column that a slot has is found
  pub missed : Lies i → Strict (at i.cols) (start i) (end i) → slot_of i col ≡ absent → Has i col → ⊥
  -- over a well formed pattern the answer is `block_index`'s
  pub index : (diagonal : List ℕ) → Pattern i.n i.row_offsets i.cols diagonal
      → slot_of i col ≡ index_of (at i.row_offsets) (at i.cols) i.row col
