-- CLEARING AND LOADING AS NUMBERS: a lent place then holds how many particles are loaded, or, refused, what it held.
use Rattle.std.specs.Prelude.{ℕ, ◌≡◌, refl, Result, Ok, Err}
use Rattle.law.specs.declared.refusal.Refusal.{Refusal}
use Rattle.law.specs.Said.{refusal_of}
use Rattle.columns_table.specs.Said.{loaded_said}
use Rattle.abi_answers.specs.Numbers.{answered}
use Rattle.abi_answers.specs.Telling.{whole_by}

pub loaded_number : (a : Result ℕ Refusal) → answered a ≡ refusal_of (loaded_said a)
loaded_number (Err k) = refl
loaded_number (Ok count) = refl

abbrev pub loaded_after : Result ℕ Refusal → ℕ → ℕ
loaded_after a old = whole_by (loaded_said a) old
