-- WHAT THE DIRECT SOLVER'S CALLS SAY: 0 for a whole factor or a solve, 1 for a failure with its row and pivot.
use Rattle.std.specs.Prelude.{[], ◌∷◌, Result, Ok, Err}
use Rattle.law.specs.declared.refusal.Refusal.{Refusal}
use Rattle.law.specs.Number.{number}
use Rattle.law.specs.Refusal.{Verdict}
use Rattle.law.specs.Said.{Said, refused, carries}
use Rattle.factor_make.specs.Factored.{Factored}

abbrev pub factored_said : Result Factored Refusal → Said
factored_said (Err k) = refused (number k)
factored_said (Ok (Ok _)) = carries 0 [] []
factored_said (Ok (Err e)) = carries 1 (e.row ∷ []) (e.pivot ∷ [])

abbrev pub solved_said : Verdict → Said
solved_said (Err k) = refused (number k)
solved_said (Ok _) = carries 0 [] []
