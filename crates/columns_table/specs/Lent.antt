-- A TABLE'S LISTS, lent together.
use Rattle.std.specs.Prelude.{ℕ, ◌≤◌, Bool, List, length}
use Rattle.columns_table.specs.declared.table.Table.{Table}
use Rattle.columns_table.specs.Table.{table_ok}

pub record Numbering : Type 0 where
  pub pinned : List ℕ
  pub loaded : ℕ
  pub column_of : List ℕ

abbrev pub numbering : List ℕ → ℕ → List ℕ → Numbering
numbering pinned loaded table = record { pinned = pinned; loaded = loaded; column_of = table }

-- what a lent table's lists hold
abbrev pub numbers_of : Table → Numbering
numbers_of t = numbering t.pinned.now t.loaded t.column_of.now

-- that each particle has its mark and its place; whether the table numbers particles, as a test
abbrev pub HasPlaces : ℕ → Numbering → Type 0
HasPlaces n t = (n ≤ length t.pinned) × (n ≤ length t.column_of)

abbrev pub is_numbered : ℕ → Numbering → Bool
is_numbered n t = table_ok n t.pinned t.loaded t.column_of
