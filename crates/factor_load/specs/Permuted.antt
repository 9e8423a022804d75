-- THE PERMUTED MATRIX, entry by entry, without lists or places. proofs/Loaded.antt shows that it is what the load leaves.
use Rattle.std.specs.Prelude.{ℕ, ◌/◌, ◌%◌, cond, List, [], get_or, Float}
use Rattle.std.specs.Float.{nan}
use Rattle.plane.specs.Plane.{zero32}
use Rattle.plane.specs.Lent.{block_at}
use Rattle.matrix_shape.specs.Formed.{stored}
use Rattle.matrix_shape.specs.Index.{index_of}

-- an entry for each row and column
abbrev pub Matrix : Type 0
Matrix = ℕ → ℕ → Float

-- rows 2i and 2i + 1 are the particle's at position i, whose number is o i. In the block of two particles the column is counted
-- first. Where the pattern, whose row starts are t and whose columns are c, stores no block, the entries are +0.0
unfoldable pub permuted : (ℕ → ℕ) → (ℕ → ℕ) → List Float → (ℕ → ℕ) → Matrix
permuted t c blocks o i j =
    let q = o (i / 2) in
    let r = o (j / 2) in
    cond (stored t c q r) (get_or (get_or (block_at blocks (index_of t c q r)) (j % 2) []) (i % 2) nan) zero32
