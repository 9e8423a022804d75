-- THE ROW VIEW'S ANSWERS, by what they say: a lent place then holds the number that the answer carries, or what it held.
use Rattle.std.specs.Prelude.{ℕ, ◌≡◌, refl, Result, Ok, Err}
use Rattle.law.specs.declared.refusal.Refusal.{Refusal}
use Rattle.law.specs.Said.{refusal_of}
use Rattle.matrix_row_view.specs.Said.{spanned_said, seen_said, placed_said}
use Rattle.matrix_row_view.specs.declared.Slots.{Slots}
use Rattle.abi_answers.specs.Telling.{whole_at}
use Rattle.abi_answers.specs.Numbers.{answered}

pub spanned_number : (a : Result Slots Refusal) → answered a ≡ refusal_of (spanned_said a)
spanned_number (Ok slots) = refl
spanned_number (Err k) = refl

pub seen_number : (a : Result ℕ Refusal) → answered a ≡ refusal_of (seen_said a)
seen_number (Ok col) = refl
seen_number (Err k) = refl

pub placed_number : (a : Result ℕ Refusal) → answered a ≡ refusal_of (placed_said a)
placed_number (Ok slot) = refl
placed_number (Err k) = refl

abbrev pub spanned_first : Result Slots Refusal → ℕ → ℕ
spanned_first a old = whole_at 0 (spanned_said a) old

abbrev pub spanned_len : Result Slots Refusal → ℕ → ℕ
spanned_len a old = whole_at 1 (spanned_said a) old

abbrev pub seen_col : Result ℕ Refusal → ℕ → ℕ
seen_col a old = whole_at 0 (seen_said a) old

abbrev pub placed_slot : Result ℕ Refusal → ℕ → ℕ
placed_slot a old = whole_at 0 (placed_said a) old
