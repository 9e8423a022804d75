-- Computed on the definitions: what the row view's answers are told as, from places that hold 7. Assumes nothing.
use mathlib.Core.Path.{◌≡◌, refl}
use Rattle.std.specs.Prelude.{ℕ, Result, Ok, Err}
use Rattle.law.specs.declared.refusal.Refusal.{Refusal}
use Rattle.law.specs.declared.refusal.Refusal.TheVariants.{OutOfRange}
use Rattle.matrix_row_view.specs.declared.Slots.{Slots}
use Rattle.matrix_row_view.specs.Showing.{slots_from}
use Rattle.abi_answers.specs.Numbers.{answered}
use Rattle.abi_calls.specs.Row.{spanned_first, spanned_len, seen_col, placed_slot}

slots : Result Slots Refusal
slots = Ok (slots_from 2 5)

-- a column or a slot, and a refusal of either
place : ℕ → Result ℕ Refusal
place x = Ok x

no_slots : Result Slots Refusal
no_slots = Err OutOfRange

no_place : Result ℕ Refusal
no_place = Err OutOfRange

record Readings : Type 0 where
  -- five blocks from slot 2 on; column 3; slot 6
  row : answered slots ≡ 0
  first : spanned_first slots 7 ≡ 2
  len : spanned_len slots 7 ≡ 5
  block : answered (place 3) ≡ 0
  col : seen_col (place 3) 7 ≡ 3
  found : answered (place 6) ≡ 0
  slot : placed_slot (place 6) 7 ≡ 6
  -- refused by 4
  row_refused : answered no_slots ≡ 4
  first_kept : spanned_first no_slots 7 ≡ 7
  len_kept : spanned_len no_slots 7 ≡ 7
  block_refused : answered no_place ≡ 4
  col_kept : seen_col no_place 7 ≡ 7
  found_refused : answered no_place ≡ 4
  slot_kept : placed_slot no_place 7 ≡ 7

readings : Readings
unfolding slots no_slots place no_place
readings = record {
  row = refl;
  first = refl;
  len = refl;
  block = refl;
  col = refl;
  found = refl;
  slot = refl;
  row_refused = refl;
  first_kept = refl;
  len_kept = refl;
  block_refused = refl;
  col_kept = refl;
  found_refused = refl;
  slot_kept = refl;
}
