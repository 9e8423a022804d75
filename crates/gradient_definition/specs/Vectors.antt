-- VECTORS OF EXACTLY 2 * n FLOATS: the matrix and the preconditioner as functions on them, and the solver's steps;
-- and that these are what the loops of `vectors` and `matrix_values` leave in a buffer of that length.
use Rattle.std.specs.Prelude.{ℕ, zero, suc, ◌+◌, ◌*◌, ◌≤◌, ◌<◌, ◌≡◌, refl, List, length, get_or, Float}
use Rattle.std.proofs.Common.{arith, add-zero, sym, ◌∙◌}
use Rattle.std.specs.Float.{nan}
use Rattle.law.specs.Gather.{gather}
use Rattle.law.specs.Mix.{mix}
use Rattle.law.proofs.Mix.{mix_of, mix_whole}
use Rattle.plane.specs.Plane.{zero_of}
use Rattle.plane.specs.Lent.{vector_at}
use Rattle.vectors.specs.Whole.{lack_at}
use Rattle.vectors.specs.Multiples.{advanced_at, retreated_at, redirected_at, scaled_at, preconditioned_at}
use Rattle.matrix_shape.specs.Rows.{at, Rows}
use Rattle.matrix_values.specs.Product.{product_at}

-- a function on vectors
abbrev pub Map : Type 0
Map = List Float → List Float

-- THE MATRIX, and THE PRECONDITIONER: a block for each particle
unfoldable pub product : ℕ → List ℕ → List ℕ → List Float → Map
product n starts cols blocks v = gather (product_at starts cols blocks v) 0 n

unfoldable pub preconditioned : ℕ → List Float → Map
preconditioned n p r = gather (preconditioned_at p r) 0 n

-- x + d * alpha
unfoldable pub advanced : ℕ → Float → List Float → List Float → List Float
advanced n alpha d x = gather (advanced_at alpha d x) 0 n

-- r - d * alpha
unfoldable pub retreated : ℕ → Float → List Float → List Float → List Float
retreated n alpha d r = gather (retreated_at alpha d r) 0 n

-- z + d * beta
unfoldable pub redirected : ℕ → Float → List Float → List Float → List Float
redirected n beta z d = gather (redirected_at beta z d) 0 n

-- b - r
unfoldable pub lacking : ℕ → List Float → List Float → List Float
lacking n b r = gather (lack_at b r) 0 n

-- x * alpha
unfoldable pub scaled : ℕ → Float → List Float → List Float
scaled n alpha x = gather (scaled_at alpha x) 0 n

unfoldable pub zeros : ℕ → List Float
zeros n = gather (λ _. zero_of) 0 n

-- what a walk over the matrix needs
pub record Matrix (n : ℕ) (starts cols : List ℕ) (blocks : List Float) : Type 0 where
  pub rows : Rows n starts cols
  pub values : 4 * at starts n ≤ length blocks

-- ---- what a loop leaves: l is the buffer before it, m after it

module _ (n : ℕ) (l m : List Float) (e : length l ≡ 2 * n) where
  pub product_is : (starts cols : List ℕ) (blocks v : List Float) → m ≡ mix 2 n (product_at starts cols blocks v) l → m ≡ product n starts cols blocks v
  unfolding product
  product_is starts cols blocks v h = h ∙ mix_whole 2 n _ l e

  pub preconditioned_is : (p r : List Float) → m ≡ mix 2 n (preconditioned_at p r) l → m ≡ preconditioned n p r
  unfolding preconditioned
  preconditioned_is p r h = h ∙ mix_whole 2 n _ l e

  pub advanced_is : (alpha : Float) (d : List Float) → m ≡ mix 2 n (advanced_at alpha d l) l → m ≡ advanced n alpha d l
  unfolding advanced
  advanced_is alpha d h = h ∙ mix_whole 2 n _ l e

  pub retreated_is : (alpha : Float) (d : List Float) → m ≡ mix 2 n (retreated_at alpha d l) l → m ≡ retreated n alpha d l
  unfolding retreated
  retreated_is alpha d h = h ∙ mix_whole 2 n _ l e

  pub redirected_is : (beta : Float) (z : List Float) → m ≡ mix 2 n (redirected_at beta z l) l → m ≡ redirected n beta z l
  unfolding redirected
  redirected_is beta z h = h ∙ mix_whole 2 n _ l e

  pub lacking_is : (b : List Float) → m ≡ mix 2 n (lack_at b l) l → m ≡ lacking n b l
  unfolding lacking
  lacking_is b h = h ∙ mix_whole 2 n _ l e

  pub scaled_is : (alpha : Float) → m ≡ mix 2 n (scaled_at alpha l) l → m ≡ scaled n alpha l
  unfolding scaled
  scaled_is alpha h = h ∙ mix_whole 2 n _ l e

  pub zeros_are : m ≡ mix 2 n (λ _. zero_of) l → m ≡ zeros n
  unfolding zeros
  zeros_are h = h ∙ mix_whole 2 n _ l e

  -- a copy of s
  pub copied_is : (s : List Float) → length s ≡ 2 * n → m ≡ mix 2 n (vector_at s) l → m ≡ s
  copied_is s g h =
      h ∙ mix_whole 2 n (vector_at s) l e ∙ sym (mix_of 2 nan (vector_at s) (λ j. refl) n s s (omega arith) parts refl ∙ mix_whole 2 n (vector_at s) s g)
    where
      two : (j i : ℕ) → i < 2 → get_or s (2 * j + i) nan ≡ get_or (vector_at s j) i nan
      two j zero l = rw add-zero
      two j (suc zero) l = refl
      two j (suc (suc i)) l = absurd (omega arith)

      parts : (j : ℕ) → j < n → (i : ℕ) → i < 2 → get_or s (2 * j + i) nan ≡ get_or (vector_at s j) i nan
      parts j h = two j
