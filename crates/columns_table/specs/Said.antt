-- WHAT CLEARING AND LOADING SAY: how many particles are loaded then.
use Rattle.std.specs.Prelude.{ℕ, [], ◌∷◌, Result, Ok, Err}
use Rattle.law.specs.declared.refusal.Refusal.{Refusal}
use Rattle.law.specs.Number.{number}
use Rattle.law.specs.Said.{Said, refused, carries}

abbrev pub loaded_said : Result ℕ Refusal → Said
loaded_said (Err k) = refused (number k)
loaded_said (Ok count) = carries 0 (count ∷ []) []
