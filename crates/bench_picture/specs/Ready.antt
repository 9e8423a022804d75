-- WHAT DRAWING NEEDS: rows within the lists whose columns rise, and an order of particles.
use Rattle.std.specs.Prelude.{ℕ, ◌+◌, ◌*◌, ◌≤◌, ◌<◌, length}
use Rattle.law.specs.Limit.{particles}
use Rattle.matrix_shape.specs.Index.{Line}
use Rattle.matrix_shape.specs.Rows.{at}
use Rattle.bench_picture.specs.Pixels.{Scene, width}

pub record Ready (s : Scene) : Type 0 where
  pub few : s.n ≤ particles
  pub line : (r : ℕ) → r < s.n → Line s.starts s.cols r
  pub in_order : s.n ≤ length s.order
  pub particle : (i : ℕ) → i < s.n → at s.order i < s.n
  pub in_first : 2 * s.n ≤ length s.first

-- room for one line, and for the header
abbrev pub line_room : ℕ → ℕ
line_room n = width n + 1

abbrev pub header_room : ℕ
header_room = 25
