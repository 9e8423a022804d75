-- Computed on the definitions: what the doors answer, and what the answer says, for each refusal and each kind of row. Assumes nothing.
use Prim.Native.Nat.{ℕ}
use mathlib.Core.Path.{◌≡◌, refl}
use mathlib.Core.List.{List, [], ◌∷◌}
use Rattle.std.specs.Prelude.{Result, Ok, Err}
use Rattle.law.specs.declared.refusal.Refusal.{Refusal}
use Rattle.law.specs.declared.refusal.Refusal.TheVariants.{TooManyParticles, ShortBuffer, OutOfRange}
use Rattle.law.specs.Said.{Said, refused, carries}
use Rattle.law.specs.Room.{enough}
use Rattle.law.specs.Refusal.{verdict}
use Rattle.law.specs.Promise.{outcome}
use Rattle.matrix_shape.specs.Halving.{half, halved}
use Rattle.matrix_shape.specs.Search.{kept, search_of}
use Rattle.matrix_row_view.specs.declared.Slots.{Slots}
use Rattle.matrix_row_view.specs.Showing.{In, Out, given, slots_from, rows_room, refusals, span_door, column_door, slot_door}

-- what the doors leave, with the answer's words written out
slots : Result Slots Refusal → Said → Out (Result Slots Refusal)
slots a s = record { answer = a; said = s }

column : Result ℕ Refusal → Said → Out (Result ℕ Refusal)
column a s = record { answer = a; said = s }

slot : Result ℕ Refusal → Said → Out (Result ℕ Refusal)
slot a s = record { answer = a; said = s }

-- a row of these columns behind a row of one, whose column is 9
second : List ℕ → ℕ → In
second cols last = given 2 (0 ∷ 1 ∷ last ∷ []) (9 ∷ cols) 1

-- the pattern of two particles and the pair 0-1, four columns and the row offsets 0 2 4
two : List ℕ → ℕ → In
two starts row = given 2 starts (0 ∷ 1 ∷ 0 ∷ 1 ∷ []) row

record Readings : Type 0 where
  -- 1,025 particles, whatever the lists and the row
  many : outcome span_door (given 1025 [] [] 1025) ≡ slots (Err TooManyParticles) (refused 1)
  many_col : outcome (column_door 0) (given 1025 [] [] 1025) ≡ column (Err TooManyParticles) (refused 1)
  many_slot : outcome (slot_door 0) (given 1025 [] [] 1025) ≡ slot (Err TooManyParticles) (refused 1)
  -- two row offsets for two particles, and three columns where the last row offset says four; the row is out of range too, and 3 comes first
  short : outcome span_door (two (0 ∷ 2 ∷ []) 2) ≡ slots (Err ShortBuffer) (refused 3)
  short_col : outcome (column_door 0) (two (0 ∷ 2 ∷ []) 2) ≡ column (Err ShortBuffer) (refused 3)
  fewer : outcome span_door (given 2 (0 ∷ 2 ∷ 4 ∷ []) (0 ∷ 1 ∷ 0 ∷ []) 2) ≡ slots (Err ShortBuffer) (refused 3)
  fewer_col : outcome (column_door 0) (given 2 (0 ∷ 2 ∷ 4 ∷ []) (0 ∷ 1 ∷ 0 ∷ []) 2) ≡ column (Err ShortBuffer) (refused 3)
  fewer_slot : outcome (slot_door 0) (given 2 (0 ∷ 2 ∷ 4 ∷ []) (0 ∷ 1 ∷ 0 ∷ []) 2) ≡ slot (Err ShortBuffer) (refused 3)
  -- row 2 of two, though a longer list has two row offsets for it
  beyond : outcome span_door (two (0 ∷ 2 ∷ 4 ∷ 4 ∷ []) 2) ≡ slots (Err OutOfRange) (refused 4)
  beyond_col : outcome (column_door 0) (two (0 ∷ 2 ∷ 4 ∷ 4 ∷ []) 2) ≡ column (Err OutOfRange) (refused 4)
  beyond_slot : outcome (slot_door 0) (two (0 ∷ 2 ∷ 4 ∷ 4 ∷ []) 2) ≡ slot (Err OutOfRange) (refused 4)
  -- a row of two blocks: its slots 2 and 3, their columns, and nothing behind them
  row : outcome span_door (two (0 ∷ 2 ∷ 4 ∷ []) 1) ≡ slots (Ok (slots_from 2 2)) (carries 0 (2 ∷ 2 ∷ []) [])
  row_col : outcome (column_door 1) (two (0 ∷ 2 ∷ 4 ∷ []) 1) ≡ column (Ok 1) (carries 0 (1 ∷ []) [])
  row_past : outcome (column_door 2) (two (0 ∷ 2 ∷ 4 ∷ []) 0) ≡ column (Ok 4294967295) (carries 0 (4294967295 ∷ []) [])
  -- a row without a block starts where it ends
  empty : outcome span_door (two (0 ∷ 2 ∷ 2 ∷ []) 1) ≡ slots (Ok (slots_from 2 0)) (carries 0 (2 ∷ 0 ∷ []) [])
  -- bounds that fall, from 2 to 1
  falls : outcome span_door (two (0 ∷ 2 ∷ 1 ∷ []) 1) ≡ slots (Ok (slots_from 0 0)) (carries 0 (0 ∷ 0 ∷ []) [])
  falls_col : outcome (column_door 0) (two (0 ∷ 2 ∷ 1 ∷ []) 1) ≡ column (Ok 4294967295) (carries 0 (4294967295 ∷ []) [])
  -- an end of 3, where the last row offset is 2 and the list has four columns
  passes : outcome span_door (two (0 ∷ 3 ∷ 2 ∷ []) 0) ≡ slots (Ok (slots_from 0 0)) (carries 0 (0 ∷ 0 ∷ []) [])
  passes_col : outcome (column_door 0) (two (0 ∷ 3 ∷ 2 ∷ []) 0) ≡ column (Ok 4294967295) (carries 0 (4294967295 ∷ []) [])
  falls_slot : outcome (slot_door 0) (two (0 ∷ 2 ∷ 1 ∷ []) 1) ≡ slot (Ok 4294967295) (carries 0 (4294967295 ∷ []) [])
  -- a row that rises: the slots of its first and last column, and none of a column that it lacks or that the row before it has
  rises_first : outcome (slot_door 2) (second (2 ∷ 4 ∷ 7 ∷ []) 4) ≡ slot (Ok 1) (carries 0 (1 ∷ []) [])
  rises_last : outcome (slot_door 7) (second (2 ∷ 4 ∷ 7 ∷ []) 4) ≡ slot (Ok 3) (carries 0 (3 ∷ []) [])
  rises_none : outcome (slot_door 5) (second (2 ∷ 4 ∷ 7 ∷ []) 4) ≡ slot (Ok 4294967295) (carries 0 (4294967295 ∷ []) [])
  before : outcome (slot_door 9) (second (2 ∷ 4 ∷ 7 ∷ []) 4) ≡ slot (Ok 4294967295) (carries 0 (4294967295 ∷ []) [])
  -- a row that doesn't: 4 is found and 7 is missed; of equal columns the last is found
  mixed : outcome (slot_door 4) (second (4 ∷ 7 ∷ 2 ∷ []) 4) ≡ slot (Ok 1) (carries 0 (1 ∷ []) [])
  mixed_missed : outcome (slot_door 7) (second (4 ∷ 7 ∷ 2 ∷ []) 4) ≡ slot (Ok 4294967295) (carries 0 (4294967295 ∷ []) [])
  equal : outcome (slot_door 4) (second (4 ∷ 4 ∷ 4 ∷ []) 4) ≡ slot (Ok 3) (carries 0 (3 ∷ []) [])
  -- a row without a block
  none : outcome (slot_door 9) (second [] 1) ≡ slot (Ok 4294967295) (carries 0 (4294967295 ∷ []) [])
  -- longer lists: one particle alone, whose row ends with the last row offset; what stands behind is neither asked for nor shown
  longer : outcome span_door (given 1 (0 ∷ 1 ∷ 9 ∷ []) (0 ∷ 7 ∷ []) 0) ≡ slots (Ok (slots_from 0 1)) (carries 0 (0 ∷ 1 ∷ []) [])
  longer_col : outcome (column_door 1) (given 1 (0 ∷ 1 ∷ 9 ∷ []) (0 ∷ 7 ∷ []) 0) ≡ column (Ok 4294967295) (carries 0 (4294967295 ∷ []) [])
  longer_slot : outcome (slot_door 7) (given 1 (0 ∷ 1 ∷ 9 ∷ []) (0 ∷ 7 ∷ []) 0) ≡ slot (Ok 4294967295) (carries 0 (4294967295 ∷ []) [])

readings : Readings
unfolding outcome refusals rows_room verdict enough half halved kept search_of two second slots column slot
readings = record {
  many = refl;
  many_col = refl;
  many_slot = refl;
  short = refl;
  short_col = refl;
  fewer = refl;
  fewer_col = refl;
  fewer_slot = refl;
  beyond = refl;
  beyond_col = refl;
  beyond_slot = refl;
  row = refl;
  row_col = refl;
  row_past = refl;
  empty = refl;
  falls = refl;
  falls_col = refl;
  passes = refl;
  passes_col = refl;
  falls_slot = refl;
  rises_first = refl;
  rises_last = refl;
  rises_none = refl;
  before = refl;
  mixed = refl;
  mixed_missed = refl;
  equal = refl;
  none = refl;
  longer = refl;
  longer_col = refl;
  longer_slot = refl;
}
