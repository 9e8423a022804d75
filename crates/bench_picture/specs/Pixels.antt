-- THE PICTURE OF A PATTERN, before and after it is ordered: a pixel to each scalar entry, so that a block is two
-- by two. On the left the pattern as given, then a white column, on the right the same blocks at their particles'
-- places in the order. There every second place of the envelope is black too, as a hatch.
use Rattle.std.specs.Prelude.{ℕ, ◌+◌, ◌-◌, ◌*◌, ◌/◌, ◌%◌, Bool, cond, ◌&&◌, ◌||◌, List, ◌++◌, leb, ltb, eqb}
use Rattle.law.specs.Bytes.{bytes}
use Rattle.law.specs.Gather.{gather, table}
use Rattle.matrix_shape.specs.Formed.{stored}
use Rattle.matrix_shape.specs.Rows.{at}
use Rattle.bench_print.specs.Digits.{digits}

-- a pattern of n rows, the order of its plan and the first column of each of the envelope's rows
pub record Scene : Type 0 where
  pub n : ℕ
  pub starts : List ℕ
  pub cols : List ℕ
  pub order : List ℕ
  pub first : List ℕ

abbrev pub scene : ℕ → List ℕ → List ℕ → List ℕ → List ℕ → Scene
scene n starts cols order first = record { n = n; starts = starts; cols = cols; order = order; first = first }

-- entry (i,j) of the pattern as given is in a stored block
unfoldable pub before : Scene → ℕ → ℕ → Bool
before s i j = stored (at s.starts) (at s.cols) (i / 2) (j / 2)

-- entry (i,j) of the ordered one is
unfoldable pub moved : Scene → ℕ → ℕ → Bool
moved s i j = stored (at s.starts) (at s.cols) (at s.order (i / 2)) (at s.order (j / 2))

-- row i has a place for column j in the envelope, whose row starts at column f, and it is one of every second
unfoldable pub hatched : ℕ → ℕ → ℕ → Bool
hatched f i j = (leb j i && leb f j) && eqb ((i + j) % 2) 0

unfoldable pub after : Scene → ℕ → ℕ → Bool
after s i j = moved s i j || hatched (at s.first i) i j

-- the pixel at column k of the picture's line i
unfoldable pub pixel : Scene → ℕ → ℕ → Bool
pixel s i k = cond (ltb k (2 * s.n)) (before s i k) (ltb (2 * s.n) k && after s i (k - (2 * s.n + 1)))

-- ---- as a portable bitmap

unfoldable pub digit : Bool → ℕ
digit b = cond b 49 48

abbrev pub width : ℕ → ℕ
width n = 4 * n + 1

unfoldable pub row_of : Scene → ℕ → List ℕ
row_of s i = table (λ k. digit (pixel s i k)) (width s.n) ++ bytes "\n"

unfoldable pub header_of : ℕ → List ℕ
header_of n = bytes "P1\n" ++ (digits (width n) ++ (bytes " " ++ (digits (2 * n) ++ bytes "\n")))

-- THE WHOLE PICTURE
unfoldable pub picture_of : Scene → List ℕ
picture_of s = header_of s.n ++ gather (row_of s) 0 (2 * s.n)
