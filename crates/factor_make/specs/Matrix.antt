-- THE MATRIX'S FACTOR: loaded into the envelope, then worked out in place. t and c are the pattern's row
-- starts and columns, p the inverse order, f and s the plan's first columns and row starts.
use Rattle.std.specs.Prelude.{ℕ, ◌*◌, List, Float}
use Rattle.factor_load.specs.Load.{load_of}
use Rattle.factor_make.specs.Factor.{State, factor_of}

unfoldable pub matrix_of : ℕ → (ℕ → ℕ) → (ℕ → ℕ) → List Float → (ℕ → ℕ) → (ℕ → ℕ) → (ℕ → ℕ) → State
matrix_of n t c blocks p f s = factor_of f s (2 * n) (load_of n t c blocks p f s)
