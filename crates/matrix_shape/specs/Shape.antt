-- A PATTERN'S LISTS, lent together.
use Rattle.std.specs.Prelude.{ℕ, Bool, List}
use Rattle.law.specs.Room.{Room}
use Rattle.matrix_shape.specs.declared.pattern.Pattern.{Pattern}
use Rattle.matrix_shape.specs.Rows.{at, Held}
use Rattle.matrix_shape.specs.Rows as rows
use Rattle.matrix_shape.specs.Given.{formed, pattern_room}

pub record Shape : Type 0 where
  pub n : ℕ
  pub row_offsets : List ℕ
  pub cols : List ℕ
  pub diagonal : List ℕ

abbrev pub shape : ℕ → List ℕ → List ℕ → List ℕ → Shape
shape n starts cols diagonal = record { n = n; row_offsets = starts; cols = cols; diagonal = diagonal }

-- what a lent pattern's lists hold
abbrev pub lists : Pattern → Shape
lists p = shape p.n p.row_offsets.now p.cols.now p.diagonal.now

-- what each list needs, and what it has; that each has it
abbrev pub places_of : Shape → Room
places_of s = pattern_room s.n s.row_offsets s.cols s.diagonal

abbrev pub HasPlaces : Shape → Type 0
HasPlaces s = Held s.n (at s.row_offsets s.n) s.row_offsets s.cols s.diagonal

-- whether it is well formed, as a test and as a fact
abbrev pub is_formed : Shape → Bool
is_formed s = formed s.n s.row_offsets s.cols s.diagonal

abbrev pub IsPattern : Shape → Type 0
IsPattern s = rows.Pattern s.n s.row_offsets s.cols s.diagonal
