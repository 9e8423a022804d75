-- What the start's steps come to, in the words of the definition. Assumes nothing.
use Prim.Native.Nat.{ℕ}
use mathlib.Core.Path.{◌≡◌, ap, ◌∙◌}
use mathlib.Core.List.{List}
use lib.Ieee.{Float}
use Rattle.vectors.specs.Whole.{dot_all}
use Rattle.gradient_definition.specs.declared.Outcome.{Outcome}
use Rattle.gradient_definition.specs.Vectors.{Map, lacking}
use Rattle.gradient_definition.specs.Solve.{state, ended, run, finished, fresh_of, launched}

-- the residual in two steps
pub fresh_is : (n : ℕ) (A : Map) (b x r₁ r : List Float) → r₁ ≡ A x → r ≡ lacking n b r₁ → r ≡ fresh_of n A b x
unfolding fresh_of
fresh_is n A b x r₁ r e h = h ∙ ap (lacking n b) e

module _ (n : ℕ) (A P : Map) (b : List Float) (threshold : Float) (limit : ℕ) where
  -- from a residual r: o and x₁ are the run's, p and x₂ the finish's
  pub launch_is : (norm : Float) (x r z d : List Float) (rz : Float) (o p : Outcome) (x₁ x₂ : List Float) → z ≡ P r → d ≡ z → rz ≡ dot_all n r z
      → ended o x₁ ≡ run n A P threshold limit 0 norm (state x r d rz) → ended p x₂ ≡ finished n A b (ended o x₁)
      → ended p x₂ ≡ launched n A P b threshold limit norm x r
  unfolding launched
  launch_is norm x r z d rz o p x₁ x₂ z_is d-is rz-is run_is finish_is = finish_is ∙ ap (finished n A b) (rw (d-is, rz-is, z_is) at run_is)
