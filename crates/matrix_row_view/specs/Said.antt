-- WHAT THE ROW VIEW'S CALLS SAY: a row its first slot and how many blocks it has, a block its column or its slot.
use Rattle.std.specs.Prelude.{ℕ, [], ◌∷◌, Result, Ok, Err}
use Rattle.law.specs.declared.refusal.Refusal.{Refusal}
use Rattle.law.specs.Number.{number}
use Rattle.law.specs.Said.{Said, refused, carries}
use Rattle.matrix_row_view.specs.declared.Slots.{Slots}

abbrev pub spanned_said : Result Slots Refusal → Said
spanned_said (Err k) = refused (number k)
spanned_said (Ok slots) = carries 0 (slots.first ∷ slots.len ∷ []) []

abbrev pub seen_said : Result ℕ Refusal → Said
seen_said (Err k) = refused (number k)
seen_said (Ok col) = carries 0 (col ∷ []) []

abbrev pub placed_said : Result ℕ Refusal → Said
placed_said (Err k) = refused (number k)
placed_said (Ok slot) = carries 0 (slot ∷ []) []
