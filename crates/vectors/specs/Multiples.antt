-- MULTIPLES, part by part: a vector with a multiple of another added or taken away, a multiple of it, and a block times each part.
use Rattle.std.specs.Prelude.{ℕ, List, Float}
use Rattle.plane.specs.Plane.{Vector, add_of, sub_of, scale_of, times_of}
use Rattle.plane.specs.Lent.{vector_at, block_at}

-- x + d * alpha
abbrev pub advanced_at : Float → List Float → List Float → ℕ → Vector
advanced_at alpha d x k = add_of (vector_at x k) (scale_of (vector_at d k) alpha)

-- r - d * alpha
abbrev pub retreated_at : Float → List Float → List Float → ℕ → Vector
retreated_at alpha d r k = sub_of (vector_at r k) (scale_of (vector_at d k) alpha)

-- z + d * beta
abbrev pub redirected_at : Float → List Float → List Float → ℕ → Vector
redirected_at beta z d k = add_of (vector_at z k) (scale_of (vector_at d k) beta)

-- x * alpha
abbrev pub scaled_at : Float → List Float → ℕ → Vector
scaled_at alpha x k = scale_of (vector_at x k) alpha

-- each particle's block times its part
abbrev pub preconditioned_at : List Float → List Float → ℕ → Vector
preconditioned_at p r k = times_of (block_at p k) (vector_at r k)
