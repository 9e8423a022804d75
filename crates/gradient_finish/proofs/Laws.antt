-- What the code's steps come to, in the words of the definition. Assumes nothing.
use Prim.Native.Nat.{ℕ}
use mathlib.Core.Path.{◌≡◌}
use mathlib.Core.Bool.{true, false}
use mathlib.Core.List.{List}
use lib.Ieee.{Float, le, ne}
use Rattle.plane.specs.Plane.{◌⊘◌, zero32, one32}
use Rattle.vectors.specs.Whole.{dot_all}
use Rattle.gradient_definition.specs.Vectors.{Map, scaled, zeros}
use Rattle.gradient_definition.specs.Solve.{clamp_of, rescaled}

-- ---- the three ends of the rescaling

module _ (n : ℕ) (A : Map) (b x ax : List Float) (den : Float) (ax-is : ax ≡ A x) (den-is : den ≡ dot_all n x ax) where
  pub rescale_zero : le den zero32 ≡ true → zeros n ≡ rescaled n A b x
  unfolding rescaled
  rescale_zero t = rw (← ax-is, ← den-is, t)

  module _ (num alpha : Float) (t : le den zero32 ≡ false) (num-is : num ≡ dot_all n b x) (alpha_is : alpha ≡ clamp_of (num ⊘ den)) where
    pub rescale_some : ne alpha one32 ≡ true → scaled n alpha x ≡ rescaled n A b x
    unfolding rescaled
    rescale_some u = rw (← ax-is, ← den-is, ← num-is, ← alpha_is, t, u)

    pub rescale_all : ne alpha one32 ≡ false → x ≡ rescaled n A b x
    unfolding rescaled
    rescale_all u = rw (← ax-is, ← den-is, ← num-is, ← alpha_is, t, u)
