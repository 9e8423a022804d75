-- WHAT THE CODE LEAVES OF A MATRIX IS CHOLESKY'S FACTOR of the permuted matrix (`matrix_cholesky`). Assumes nothing.
use Prim.Native.Nat.{ℕ, ◌*◌}
use mathlib.Core.Path.{◌≡◌, ◌∙◌}
use mathlib.Core.List.{List}
use lib.ListN.{length}
use lib.Ieee.{Float}
use Rattle.matrix_shape.specs.Formed.{WellFormed}
use Rattle.plan_fits.specs.Fits.{Fits}
use Rattle.plan_fits.specs.Cells.{Skyline, skyline_of, look}
use Rattle.factor_load.specs.Load.{load_of}
use Rattle.factor_load.specs.Permuted.{permuted}
use Rattle.factor_load.proofs.Loaded.{loaded, loaded_long}
use Rattle.factor_make.specs.Entry.{Cholesky}
use Rattle.factor_make.specs.Matrix.{matrix_of}
use Rattle.factor_make.proofs.Meaning.{cholesky, cholesky_same, factor_long}

module _ (n m : ℕ) (t c d o p f s : ℕ → ℕ) (formed : WellFormed n m t c d) (fits : Fits n t c o p f s) (blocks : List Float) where
  pub matrix_cholesky : Cholesky (2 * n) f (permuted t c blocks o) (look f s (matrix_of n t c blocks p f s).values) (matrix_of n t c blocks p f s).how
  unfolding matrix_of
  matrix_cholesky =
      let v = load_of n t c blocks p f s in
      let sky : Skyline (2 * n) f s = skyline_of fits.planned in
      cholesky_same (2 * n) f (look f s v) (permuted t c blocks o) (look f s (matrix_of n t c blocks p f s).values) sky.low
      (loaded n m t c d o p f s formed fits blocks)
      (matrix_of n t c blocks p f s).how (cholesky sky v (loaded_long n m t c d o p f s formed fits blocks))

  pub matrix_long : length (matrix_of n t c blocks p f s).values ≡ s (2 * n)
  unfolding matrix_of
  matrix_long = factor_long f s (2 * n) (load_of n t c blocks p f s) ∙ loaded_long n m t c d o p f s formed fits blocks
