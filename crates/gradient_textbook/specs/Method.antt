-- THE PRECONDITIONED CONJUGATE GRADIENT as textbooks have it, after Hestenes and Stiefel: sequences over the count k of turns, each by its recurrence,
-- with the house's operations on floats. A is the matrix, P the preconditioner, and the first x is the one handed in.
use Rattle.std.specs.Prelude.{ℕ, ◌+◌, ◌≡◌, List, Float}
use Rattle.plane.specs.Plane.{◌⊘◌}
use Rattle.vectors.specs.Whole.{dot_all}
use Rattle.gradient_definition.specs.Vectors.{Map, advanced, retreated, redirected, lacking}

pub record Method (n : ℕ) (A P : Map) (b start : List Float) : Type 0 where
  -- x, its residual, the residual preconditioned, and the direction
  pub x : ℕ → List Float
  pub r : ℕ → List Float
  pub z : ℕ → List Float
  pub d : ℕ → List Float
  -- how far turn k goes, and how much of its direction the next one keeps
  pub alpha : ℕ → Float
  pub beta : ℕ → Float
  -- r(0) = b - A x(0) and d(0) = z(0)
  pub x_first : x 0 ≡ start
  pub r_first : r 0 ≡ lacking n b (A (x 0))
  pub d_first : d 0 ≡ z 0
  -- z(k) = P r(k)
  pub z_is : (k : ℕ) → z k ≡ P (r k)
  -- alpha(k) = r(k)·z(k) / d(k)·A d(k)
  pub alpha_is : (k : ℕ) → alpha k ≡ dot_all n (r k) (z k) ⊘ dot_all n (d k) (A (d k))
  -- x(k+1) = x(k) + alpha(k) d(k) and r(k+1) = r(k) - alpha(k) A d(k)
  pub x_next : (k : ℕ) → x (k + 1) ≡ advanced n (alpha k) (d k) (x k)
  pub r_next : (k : ℕ) → r (k + 1) ≡ retreated n (alpha k) (A (d k)) (r k)
  -- beta(k) = r(k+1)·z(k+1) / r(k)·z(k) and d(k+1) = z(k+1) + beta(k) d(k)
  pub beta_is : (k : ℕ) → beta k ≡ dot_all n (r (k + 1)) (z (k + 1)) ⊘ dot_all n (r k) (z k)
  pub d_next : (k : ℕ) → d (k + 1) ≡ redirected n (beta k) (z (k + 1)) (d k)
