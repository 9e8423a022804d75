-- WHAT THE CONJUGATE GRADIENT'S CALLS SAY: how a solve ended, by the outcome's number, its count and its floats.
use Rattle.std.specs.Prelude.{[], ◌∷◌, Result, Ok, Err}
use Rattle.law.specs.declared.refusal.Refusal.{Refusal}
use Rattle.law.specs.Number.{number}
use Rattle.law.specs.Refusal.{Verdict}
use Rattle.law.specs.Said.{Said, refused, carries}
use Rattle.gradient_definition.specs.declared.Outcome.{Outcome}
use Rattle.gradient_definition.specs.Solve.{number_of, count_of, values_of}

abbrev pub updated_said : Verdict → Said
updated_said (Err k) = refused (number k)
updated_said (Ok _) = carries 0 [] []

abbrev pub solved_said : Result Outcome Refusal → Said
solved_said (Err k) = refused (number k)
solved_said (Ok o) = carries (number_of o) (count_of o ∷ []) (values_of o)
