-- WHICH SETTINGS A SOLVE TAKES: a tolerance that is finite and at least zero, as -0.0 is, and no more turns than the limit on them.
use Rattle.std.specs.Prelude.{ℕ, ◌≡◌, refl, Bool, true, false, ◌&&◌, leb, Float}
use Rattle.std.specs.Float.{nan, inf, fin}
use Rattle.std.specs.Float.Ieee.{le, lt, of_bits}
use Rattle.law.specs.Limit.{iterations}
use Rattle.plane.specs.Plane.{zero32, finite}

unfoldable pub settings_ok : Float → ℕ → Bool
settings_ok tolerance limit = (finite tolerance && le zero32 tolerance) && leb limit iterations

last_true : (t : Bool) → (t && true) ≡ t
last_true true = refl
last_true false = refl

-- as the code tests it: at least zero and below infinity
pub between : (a : Float) → (le zero32 a && lt a (inf false)) ≡ (finite a && le zero32 a)
unfolding le lt of_bits
between nan = refl
between (inf true) = refl
between (inf false) = refl
between (fin s m e) = last_true (le zero32 (fin s m e))
