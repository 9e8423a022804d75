-- Readings of the record after a call, computed: the calls that lend it stand in a crate above. Assumes nothing.
use Prim.Native.Nat.{ℕ}
use mathlib.Core.Path.{◌≡◌, refl}
use mathlib.Core.List.{[]}
use lib.Ieee.{nan}
use Rattle.std.specs.Prelude.{Result, Ok, Err}
use Rattle.law.specs.declared.refusal.Refusal.{Refusal}
use Rattle.law.specs.declared.refusal.Refusal.TheVariants.{OutOfRange, BadPattern}
use Rattle.gradient_definition.specs.declared.Outcome.TheVariants.{Limit}
use Rattle.step_tally.specs.declared.Tally.{Tally}
use Rattle.step_tally.specs.Runs.{fresh}
use Rattle.step_solve.specs.Stepping as S
use Rattle.step_solve.specs.declared.Stepped.{Stepped}
use Rattle.step_solve.specs.declared.Stepped.TheVariants as steps
use Rattle.step_response.specs.Responding as R
use Rattle.step_response.specs.declared.Responded.{Responded}
use Rattle.step_response.specs.declared.Responded.TheVariants as answers
use Rattle.step_counts.specs.Counting.{after_step, after_response}

-- a fresh record after a step solve, and after a response
stepped : Result Stepped Refusal → Tally
stepped r = after_step fresh (S.left r [] [] [] [] [] [])

responded : Result Responded Refusal → Tally
responded r = after_response fresh (R.left r [] [] [] [] [] [] [])

-- direct, limit and refused, of the seven counts
counts : ℕ → ℕ → ℕ → Tally
counts direct limit refused =
    record { direct = direct; zero = 0; near = 0; converged = 0; curvature = 0; limit = limit; refused = refused }

record Readings : Type 0 where
  -- each call is counted once
  direct : stepped (Ok steps.Direct) ≡ counts 1 0 0
  limit : stepped (Ok (steps.Iterated (Limit 7 nan))) ≡ counts 0 1 0
  refused : stepped (Err BadPattern) ≡ counts 0 0 1
  -- a response by the step solve that it asked for, if any
  by_factor : responded (Ok (answers.Direct nan)) ≡ counts 1 0 0
  by_turns : responded (Ok (answers.Iterated nan (Limit 7 nan))) ≡ counts 0 1 0
  response_refused : responded (Err OutOfRange) ≡ counts 0 0 1
  nothing_left : responded (Ok answers.Nothing) ≡ fresh

readings : Readings
unfolding stepped responded counts
readings = record { direct = refl; limit = refl; refused = refl; by_factor = refl; by_turns = refl; response_refused = refl; nothing_left = refl }
