-- A FACTOR IN A LIST THAT HOLDS IT: what each row needs, and that its entries lie side by side, so that a run of the list is a run of the row.
use Rattle.std.specs.Prelude.{ℕ, ◌+◌, ◌-◌, ◌≤◌, ◌<◌, List, length, Float}
use Rattle.matrix_shape.specs.Rows.{at}
use Rattle.plan_fits.specs.Cells.{Drawn}

-- m rows
pub record Held (m : ℕ) (first starts : List ℕ) (values : List Float) : Type 0 where
  pub drawn : Drawn m first starts
  pub room : at starts m ≤ length values

-- row i, whose last entry is its diagonal
pub record Row (first starts : List ℕ) (values : List Float) (i : ℕ) : Type 0 where
  pub has_first : i < length first
  pub has_start : i < length starts
  pub low : at first i ≤ i
  pub last : at starts i + (i - at first i) < length values
