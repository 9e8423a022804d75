-- What a turn's steps come to, in the words of the definition. Assumes nothing.
use mathlib.Core.Path.{◌≡◌}
use mathlib.Core.Bool.{true, false}
use mathlib.Core.List.{List}
use Prim.Native.Nat.{ℕ}
use lib.Ieee.{Float, lt, le}
use Rattle.plane.specs.Plane.{◌⊘◌, zero32}
use Rattle.vectors.specs.Whole.{dot_all}
use Rattle.gradient_definition.specs.declared.Turned.TheVariants.{Bent, Done, Onward}
use Rattle.gradient_definition.specs.Vectors.{Map, advanced, retreated, redirected}
use Rattle.gradient_definition.specs.Solve.{State, after, turn}

-- the three ends of a turn
module _ (n : ℕ) (A P : Map) (threshold : Float) (s : State) (ad : List Float) (den : Float)
    (ad_is : ad ≡ A s.direction) (den-is : den ≡ dot_all n s.direction ad) where
  pub turn_bent : lt zero32 den ≡ false → after (Bent den) s.x s.residual s.direction ≡ turn n A P threshold s
  unfolding turn
  turn_bent t = rw (← ad_is, ← den-is, t)

  module _ (x r : List Float) (norm : Float) (above : lt zero32 den ≡ true)
      (x_is : x ≡ advanced n (s.rz ⊘ den) s.direction s.x)
      (r-is : r ≡ retreated n (s.rz ⊘ den) ad s.residual)
      (norm-is : norm ≡ dot_all n r r) where
    pub turn_done : le norm threshold ≡ true → after (Done norm) x r s.direction ≡ turn n A P threshold s
    unfolding turn
    turn_done t = rw (← ad_is, ← den-is, ← x_is, ← r-is, ← norm-is, above, t)

    pub turn_onward : (z d : List Float) (rz : Float) → le norm threshold ≡ false → z ≡ P r → rz ≡ dot_all n r z → d ≡ redirected n (rz ⊘ s.rz) z
        s.direction
        → after (Onward norm rz) x r d ≡ turn n A P threshold s
    unfolding turn
    turn_onward z d rz t z_is rz-is d-is = rw (← ad_is, ← den-is, ← x_is, ← r-is, ← norm-is, ← z_is, ← rz-is, ← d-is, above, t)
