-- What the code's steps come to, in the words of the definition. Assumes nothing.
use Prim.Native.Nat.{ℕ}
use mathlib.Core.Path.{◌≡◌}
use mathlib.Core.Bool.{true}
use mathlib.Core.List.{List}
use lib.Ieee.{Float, eq}
use Rattle.plane.specs.Plane.{zero32}
use Rattle.vectors.specs.Whole.{dot_all}
use Rattle.gradient_definition.specs.declared.Outcome.TheVariants.{Zero}
use Rattle.gradient_definition.specs.Vectors.{Map, zeros}
use Rattle.gradient_definition.specs.Solve.{ended, solved}

pub solve_zero : (n : ℕ) (A P : Map) (b : List Float) (tolerance : Float) (limit : ℕ) (x : List Float) (b2 : Float) → b2 ≡ dot_all n b b
    → eq b2 zero32 ≡ true → (y : List Float) → y ≡ zeros n → ended (Zero 0) y ≡ solved n A P b tolerance limit x
unfolding solved
solve_zero n A P b tolerance limit x b2 b2-is t y y-is = rw (← b2-is, t, y-is)
