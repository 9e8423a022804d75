-- THE PLAN OF A PATTERN: the order of its particles, the place of each, the column where each of the envelope's rows
-- starts, and the place where it does. A place has two rows; the last row start is the envelope's length.
use Rattle.std.specs.Prelude.{ℕ, ◌*◌, List}
use Rattle.law.specs.Gather.{table}
use Rattle.matrix_shape.specs.Rows.{at}
use Rattle.order_definition.specs.Order.{order_of}
use Rattle.order_definition.specs.Envelope.{place_of, first_col, row_starts}

pub record Plan : Type 0 where
  pub order : List ℕ
  pub inverse : List ℕ
  pub first : List ℕ
  pub rows : List ℕ

abbrev pub four : List ℕ → List ℕ → List ℕ → List ℕ → Plan
four order inverse first rows = record { order = order; inverse = inverse; first = first; rows = rows }

-- by an order of the particles
unfoldable pub plan_by : ℕ → List ℕ → List ℕ → List ℕ → Plan
plan_by n s c o = four o (table (place_of o) n) (table (first_col s c o) (2 * n)) (row_starts s c o (2 * n))

unfoldable pub plan_of : ℕ → List ℕ → List ℕ → Plan
plan_of n s c = plan_by n s c (order_of n s c)

unfoldable pub envelope_length : ℕ → List ℕ → List ℕ → ℕ
envelope_length n s c = at (plan_of n s c).rows (2 * n)
