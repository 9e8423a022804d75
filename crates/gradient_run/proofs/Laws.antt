-- What the code's steps come to, in the words of the definition. Assumes nothing.
use Prim.Native.Nat.{ℕ, suc, ◌+◌, ◌-◌, ◌<◌}
use native.Mathlib.Omega.{arith}
use mathlib.Core.Path.{◌≡◌, refl, ap, ◌∙◌}
use mathlib.Core.List.{List}
use lib.Ieee.{Float}
use Rattle.gradient_definition.specs.declared.Turned.{Turned}
use Rattle.gradient_definition.specs.declared.Turned.TheVariants.{Bent, Done, Onward}
use Rattle.gradient_definition.specs.declared.Outcome.TheVariants.{Converged, Curvature, Limit}
use Rattle.gradient_definition.specs.Vectors.{Map}
use Rattle.gradient_definition.specs.Solve.{State, After, state, after, ended, turn, run, onward}

module _ (n : ℕ) (A P : Map) (threshold : Float) where
  pub run_none : (count : ℕ) (norm : Float) (s : State) → ended (Limit count norm) s.x ≡ run n A P threshold 0 count norm s
  unfolding run
  run_none count norm s = refl

  run_turn : (left count : ℕ) (norm : Float) (s : State) (a : After) → a ≡ turn n A P threshold s
      → onward a.how count norm a (λ next t. run n A P threshold left (count + 1) next t) ≡ run n A P threshold (suc left) count norm s
  unfolding run
  run_turn left count norm s a e = rw (← e)

  -- at a loop's head, after count turns of limit, with what the turn's code returned and left
  module _ (limit count : ℕ) (h : count < limit) (norm : Float) (s : State) (t : Turned) (x r d : List Float)
      (e : after t x r d ≡ turn n A P threshold s) where
    loop_turn : onward t count norm (after t x r d) (λ next u. run n A P threshold (limit - (count + 1)) (count + 1) next u) ≡ run n A P threshold
        (limit - count) count norm s
    loop_turn =
        let k : suc (limit - (count + 1)) ≡ limit - count = omega arith in
        run_turn (limit - (count + 1)) count norm s (after t x r d) e ∙ ap (λ (m : ℕ). run n A P threshold m count norm s) k

    pub loop_bent : (den : Float) → t ≡ Bent den → ended (Curvature count norm den) x ≡ run n A P threshold (limit - count) count norm s
    loop_bent den q = rw q at loop_turn

    pub loop_done : (last : Float) → t ≡ Done last → ended (Converged (count + 1) last) x ≡ run n A P threshold (limit - count) count norm s
    loop_done last q = rw q at loop_turn

    pub loop_onward : (next rz : Float) → t ≡ Onward next rz → run n A P threshold (limit - (count + 1)) (count + 1) next (state x r d rz) ≡ run n A P
        threshold (limit - count) count norm s
    loop_onward next rz q = rw q at loop_turn
