-- WHAT THE TWO BUILDING CALLS SAY: a built pattern its number of blocks.
use Rattle.std.specs.Prelude.{ℕ, [], ◌∷◌, Result, Ok, Err}
use Rattle.law.specs.declared.refusal.Refusal.{Refusal}
use Rattle.law.specs.Number.{number}
use Rattle.law.specs.Said.{Said, refused, carries}

abbrev pub built_said : Result ℕ Refusal → Said
built_said (Err k) = refused (number k)
built_said (Ok blocks) = carries 0 (blocks ∷ []) []
