-- WHAT THE PICTURE SHOWS. Left, the black pixels are the stored blocks. Right, a stored block is black at the places of its two particles, and so is
-- every second place of the envelope; nothing else is black above the diagonal; and from the diagonal down nothing is black outside the envelope.
use Prim.Native.Nat.{ℕ, ◌+◌, ◌*◌}
use Rattle.std.specs.Prelude.{◌≡◌}
use Rattle.matrix_shape.specs.Rows.{at}
use Rattle.bench_picture.specs.Pixels.{Scene, row_of}

-- a pixel of line i is black: its digit is a 1
abbrev pub Black : Scene → ℕ → ℕ → Type 0
Black s i k = at (row_of s i) k ≡ 49

abbrev pub right : Scene → ℕ → ℕ
right s j = 2 * s.n + 1 + j
