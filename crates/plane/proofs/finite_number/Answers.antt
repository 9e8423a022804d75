use mathlib.Core.Path.{◌≡◌, refl}
use mathlib.Core.Bool.{true, false, ◌&&◌}
use lib.Ieee.{Float, nan, inf, fin, lt, neg, div, of_bits}
use Rattle.plane.specs.Plane.{finite}
use Rattle.plane.proofs.finite_number.Goals as goal

between : (a : Float) → (lt (inf true) a && lt a (inf false)) ≡ finite a
unfolding lt
between nan = refl
between (inf true) = refl
between (inf false) = refl
between (fin s m e) = refl

pub returns : goal.returns
unfolding neg div of_bits
returns c = between c.args.a
