-- THE FACTOR, ROW BY ROW AND IN PLACE, as the code works it out: f r is the first column of row r, s r
-- the place where row r starts. What the entries are, Entry.antt says without places.
use Rattle.std.specs.Prelude.{ℕ, ◌≡◌, cond, List, length, set, Float, Ok, Err}
use Rattle.std.specs.Float.Ieee.{lt}
use Rattle.law.specs.Loop.{over}
use Rattle.plane.specs.Plane.{zero32}
use Rattle.root.specs.Sqrt.{sqrt_of}
use Rattle.matrix_shape.specs.Rows.{at}
use Rattle.plan_fits.specs.Cells.{place, Drawn}
use Rattle.factor_row.specs.Row.{left_of, pivot_of}
use Rattle.factor_make.specs.Factored.{Factored, failed}

-- how it went, and what the factor's places hold
pub record State : Type 0 where
  pub how : Factored
  pub values : List Float

abbrev pub state : Factored → List Float → State
state h v = record { how = h; values = v }

-- a pivot above zero gives the diagonal, its root; any other, NaN too, ends the work and leaves the diagonal
unfoldable pub close_of : ℕ → ℕ → Float → List Float → State
close_of i end d v = cond (lt zero32 d) (state (Ok tt) (set v end (sqrt_of d))) (state (Err (failed i d)) v)

unfoldable pub row_of : (ℕ → ℕ) → (ℕ → ℕ) → ℕ → List Float → State
row_of f s i v =
    let w = left_of f s (f i) (s i) i v in
    close_of i (place f s i i) (pivot_of w (s i) (place f s i i)) w

-- a row is worked on only where none before it has failed
abbrev pub onward : Factored → State → State → State
onward (Ok _) next s = next
onward (Err e) next s = s

unfoldable pub row_step : (ℕ → ℕ) → (ℕ → ℕ) → ℕ → State → State
row_step f s i z = onward z.how (row_of f s i z.values) z

-- THE FACTOR of m rows
unfoldable pub factor_of : (ℕ → ℕ) → (ℕ → ℕ) → ℕ → List Float → State
factor_of f s m v = over (row_step f s) 0 m (state (Ok tt) v)

-- ---- what the code asks

-- the factor's lists: a plan's rows, and values of just its length
pub record Envelope (m : ℕ) (first starts : List ℕ) (values : List Float) : Type 0 where
  pub drawn : Drawn m first starts
  pub whole : length values ≡ at starts m
