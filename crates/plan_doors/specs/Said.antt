-- WHAT PLANNING SAYS: the envelope's length.
use Rattle.std.specs.Prelude.{ℕ, [], ◌∷◌, Result, Ok, Err}
use Rattle.law.specs.declared.refusal.Refusal.{Refusal}
use Rattle.law.specs.Number.{number}
use Rattle.law.specs.Said.{Said, refused, carries}

abbrev pub planned_said : Result ℕ Refusal → Said
planned_said (Err k) = refused (number k)
planned_said (Ok len) = carries 0 (len ∷ []) []
