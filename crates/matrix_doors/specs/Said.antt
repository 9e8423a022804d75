-- WHAT THE BLOCK MATRIX'S CALLS SAY: an asked slot its place. What a built pattern says stands in `matrix_building`.
use Rattle.std.specs.Prelude.{ℕ, [], ◌∷◌, Result, Ok, Err}
use Rattle.law.specs.declared.refusal.Refusal.{Refusal}
use Rattle.law.specs.Number.{number}
use Rattle.law.specs.Refusal.{Verdict}
use Rattle.law.specs.Said.{Said, refused, carries}

abbrev pub found_said : Result ℕ Refusal → Said
found_said (Err k) = refused (number k)
found_said (Ok slot) = carries 0 (slot ∷ []) []

abbrev pub ran_said : Verdict → Said
ran_said (Err k) = refused (number k)
ran_said (Ok _) = carries 0 [] []
