-- Readings of a combination, computed through its door's outcome: two particles, the first of them loaded; the list that may be written has a place too
-- many, and NaN in all. Assumes nothing.
use Prim.Native.Nat.{ℕ}
use mathlib.Core.Path.{◌≡◌, refl}
use mathlib.Core.List.{List, [], ◌∷◌, ◌++◌}
use lib.Ieee.{Float, nan, binary32, of_bits, add, mul, lt, eq}
use lib.ListN.{replicate}
use Rattle.std.specs.Prelude.{Ok, Err}
use Rattle.law.specs.declared.refusal.Refusal.{Refusal}
use Rattle.law.specs.declared.refusal.Refusal.TheVariants.{TooManyParticles, TooManyEntries, ShortBuffer, OutOfRange, BadPlan}
use Rattle.law.specs.Loop.{fold, over}
use Rattle.law.specs.Every.{every, some}
use Rattle.law.specs.Sum.{sum, bit}
use Rattle.law.specs.Gather.{gather}
use Rattle.law.specs.Room.{enough}
use Rattle.law.specs.Refusal.{verdict}
use Rattle.law.specs.Promise.{outcome}
use Rattle.law.specs.Said.{refused, carries}
use Rattle.plane.specs.Plane.{zero32, one32}
use Rattle.step_entries.specs.Entries.{entries_room, below, free, any_free, gain_step, raw_gain, gain_of}
use Rattle.step_entries.specs.Lent.{entered}
use Rattle.columns_table.specs.Lent.{numbering}
use Rattle.columns_table.specs.Table.{entry_ok, times, numbered, table_ok}
use Rattle.columns_combine.specs.declared.Combined.TheVariants.{NotLoaded, Nothing, Gain}
use Rattle.columns_combine.specs.Summed.{axis_added, entry_added, summed}
use Rattle.columns_combine.specs.Combining as C
use Rattle.columns_combine.proofs.Samples.{two, three, four, infinite, axis0, axis1, column, unpinned, second, both, one, bare}

abbrev five : Float
five = of_bits binary32 0x40a0_0000

abbrev six : Float
six = of_bits binary32 0x40c0_0000

abbrev seven : Float
seven = of_bits binary32 0x40e0_0000

abbrev eight : Float
eight = of_bits binary32 0x4100_0000

abbrev nine : Float
nine = of_bits binary32 0x4110_0000

abbrev ten : Float
ten = of_bits binary32 0x4120_0000

abbrev nineteen : Float
nineteen = of_bits binary32 0x4198_0000

abbrev minus_zero : Float
minus_zero = of_bits binary32 0x8000_0000

-- the column with infinities in its first axis
abbrev endless : List Float
endless = replicate 4 infinite ++ axis1

abbrev junk : List Float
junk = replicate 5 nan

abbrev zeros : List Float
zeros = replicate 4 zero32 ++ nan ∷ []

-- two particles: their marks, count, table and columns, and the entries
combined : List ℕ → ℕ → List ℕ → List Float → ℕ → List ℕ → List Float → C.Out
combined pinned loaded table columns count particles gradients = outcome C.door (C.given 2 (numbering pinned loaded table) columns (entered count particles gradients) junk)

-- none is pinned, the first is loaded
asked : ℕ → List ℕ → List Float → C.Out
asked count particles gradients = combined unpinned 1 one column count particles gradients

-- one particle, loaded as often as the count says, and no entries
loaded_as : ℕ → ℕ → C.Out
loaded_as loaded room = outcome C.door (C.given 1 (numbering (0 ∷ []) loaded (0 ∷ [])) (replicate room one32) (entered 0 [] []) junk)

-- refused, and nothing changed
no : Refusal → C.Out
no k = C.left (Err k) junk

record Combinations : Type 0 where
  -- both axes, each by its weight; entries of one particle add up, and each counts in the gain
  both_axes : asked 1 (0 ∷ []) (two ∷ one32 ∷ []) ≡ C.left (Ok (Gain nineteen)) (six ∷ seven ∷ eight ∷ nine ∷ nan ∷ [])
  adds_up : asked 2 (0 ∷ 0 ∷ []) (one32 ∷ zero32 ∷ zero32 ∷ one32 ∷ []) ≡ C.left (Ok (Gain ten)) (five ∷ five ∷ five ∷ five ∷ nan ∷ [])
  -- a column is found by its number, not by its particle: the second's is number 0
  by_number : combined unpinned 2 (1 ∷ 0 ∷ []) (column ++ replicate 8 nan) 1 (1 ∷ []) (one32 ∷ zero32 ∷ [])
      ≡ C.left (Ok (Gain three)) (axis0 ++ nan ∷ [])
  -- a weight that equals 0.0, of either sign, is passed over before its column is looked for: its infinities don't matter
  zero_skipped : combined unpinned 1 one endless 1 (0 ∷ []) (zero32 ∷ one32 ∷ []) ≡ C.left (Ok (Gain three)) (axis1 ++ nan ∷ [])
  minus_zero_skipped : combined unpinned 1 one endless 1 (0 ∷ []) (minus_zero ∷ one32 ∷ []) ≡ C.left (Ok (Gain three)) (axis1 ++ nan ∷ [])
  -- so a particle that isn't loaded does no harm with such weights; alone it still is an entry, and the gain is a gain
  harmless : asked 2 (1 ∷ 0 ∷ []) (zero32 ∷ minus_zero ∷ one32 ∷ one32 ∷ []) ≡ C.left (Ok (Gain ten)) (five ∷ five ∷ five ∷ five ∷ nan ∷ [])
  alone : asked 1 (1 ∷ []) (zero32 ∷ minus_zero ∷ []) ≡ C.left (Ok (Gain zero32)) zeros
  -- and its product is in the gain: 0 times an infinity is NaN there, and a gain of NaN is +0.0
  raw_nan : raw_gain unpinned 2 (0 ∷ 1 ∷ []) (one32 ∷ zero32 ∷ zero32 ∷ zero32 ∷ []) (one32 ∷ two ∷ infinite ∷ four ∷ []) ≡ nan
  nan_gain : combined unpinned 1 one (one32 ∷ two ∷ infinite ∷ four ∷ axis1) 2 (0 ∷ 1 ∷ []) (one32 ∷ zero32 ∷ zero32 ∷ zero32 ∷ [])
      ≡ C.left (Ok (Gain zero32)) (one32 ∷ two ∷ infinite ∷ four ∷ nan ∷ [])
  -- a weight of NaN isn't passed over
  nan_weight : asked 1 (0 ∷ []) (nan ∷ zero32 ∷ []) ≡ C.left (Ok (Gain zero32)) junk
  nan_missing : asked 1 (1 ∷ []) (zero32 ∷ nan ∷ []) ≡ C.left (Ok NotLoaded) zeros
  -- not loaded: what was added before stays, and nothing is added after
  not_loaded : asked 3 (0 ∷ 1 ∷ 0 ∷ []) (one32 ∷ zero32 ∷ zero32 ∷ one32 ∷ one32 ∷ one32 ∷ []) ≡ C.left (Ok NotLoaded) (axis0 ++ nan ∷ [])
  -- pinned entries are skipped, loaded or not, by any mark but 0; none left, or no entry: zeros, and Nothing
  pinned : combined second 1 one column 2 (1 ∷ 0 ∷ []) (one32 ∷ one32 ∷ one32 ∷ one32 ∷ []) ≡ C.left (Ok (Gain ten)) (five ∷ five ∷ five ∷ five ∷ nan ∷ [])
  none_left : combined both 0 bare [] 2 (1 ∷ 0 ∷ []) (one32 ∷ one32 ∷ one32 ∷ one32 ∷ []) ≡ C.left (Ok Nothing) zeros
  no_entries : asked 0 [] [] ≡ C.left (Ok Nothing) zeros
  -- what is said: 0 and the gain, 6 and +0.0, 7, or the refusal's number
  says_gain : (asked 1 (0 ∷ []) (two ∷ one32 ∷ [])).said ≡ carries 0 [] (nineteen ∷ [])
  says_nothing : (asked 0 [] []).said ≡ carries 6 [] (zero32 ∷ [])
  says_missing : (asked 1 (1 ∷ []) (zero32 ∷ one32 ∷ [])).said ≡ carries 7 [] []
  says_no : (asked 1 (2 ∷ []) (zero32 ∷ one32 ∷ [])).said ≡ refused 4
  -- by number, lowest first: 1 before 2 before 3 before 4 before 6
  one_refused : outcome C.door (C.given 1025 (numbering [] 17 []) [] (entered 17 [] []) junk) ≡ no TooManyParticles
  two_refused : outcome C.door (C.given 1024 (numbering [] 17 []) [] (entered 17 [] []) junk) ≡ no TooManyEntries
  short_table : combined unpinned 1 (0 ∷ []) column 1 (2 ∷ []) (one32 ∷ one32 ∷ []) ≡ no ShortBuffer
  short_columns : combined unpinned 1 one (replicate 7 one32) 1 (2 ∷ []) (one32 ∷ one32 ∷ []) ≡ no ShortBuffer
  short_pinned : combined (0 ∷ []) 1 one column 1 (2 ∷ []) (one32 ∷ one32 ∷ []) ≡ no ShortBuffer
  short_particles : asked 2 (2 ∷ []) (one32 ∷ one32 ∷ one32 ∷ one32 ∷ []) ≡ no ShortBuffer
  short_gradients : asked 2 (2 ∷ 0 ∷ []) (one32 ∷ one32 ∷ one32 ∷ []) ≡ no ShortBuffer
  short_out : outcome C.door (C.given 2 (numbering unpinned 1 one) column (entered 0 [] []) (replicate 3 nan)) ≡ C.left (Err ShortBuffer) (replicate 3 nan)
  four_refused : combined unpinned 1 bare column 2 (0 ∷ 2 ∷ []) (one32 ∷ one32 ∷ one32 ∷ one32 ∷ []) ≡ no OutOfRange
  six_refused : combined unpinned 1 bare column 1 (0 ∷ []) (one32 ∷ one32 ∷ []) ≡ no BadPlan
  -- also where a particle was pinned after loading
  pinned_since : combined (1 ∷ 0 ∷ []) 1 one column 0 [] [] ≡ no BadPlan
  -- 17 are loaded: 3 with room for 16 columns, 6 with room for 17. The need is a whole number that no machine word bounds
  room_16 : loaded_as 17 64 ≡ no ShortBuffer
  room_17 : loaded_as 17 68 ≡ no BadPlan
  endless_count : loaded_as 4611686018427387904 4 ≡ no ShortBuffer
  -- without particles the need is 0: a count above 0 is 6, and 4 where a particle is named
  none_counted : outcome C.door (C.given 0 (numbering [] 1 []) [] (entered 0 [] []) junk) ≡ no BadPlan
  none_named : outcome C.door (C.given 0 (numbering [] 1 []) [] (entered 1 (0 ∷ []) (one32 ∷ one32 ∷ [])) junk) ≡ no OutOfRange

combinations : Combinations
unfolding combined asked loaded_as no outcome verdict enough C.refusals C.columns_room C.work C.sum_for summed entry_added axis_added entries_room below free any_free
    gain_step raw_gain gain_of table_ok numbered entry_ok times sum bit every some gather over fold of_bits add mul lt eq
combinations = record {
  both_axes = refl;
  adds_up = refl;
  by_number = refl;
  zero_skipped = refl;
  minus_zero_skipped = refl;
  harmless = refl;
  alone = refl;
  raw_nan = refl;
  nan_gain = refl;
  nan_weight = refl;
  nan_missing = refl;
  not_loaded = refl;
  pinned = refl;
  none_left = refl;
  no_entries = refl;
  says_gain = refl;
  says_nothing = refl;
  says_missing = refl;
  says_no = refl;
  one_refused = refl;
  two_refused = refl;
  short_table = refl;
  short_columns = refl;
  short_pinned = refl;
  short_particles = refl;
  short_gradients = refl;
  short_out = refl;
  four_refused = refl;
  six_refused = refl;
  pinned_since = refl;
  room_16 = refl;
  room_17 = refl;
  endless_count = refl;
  none_counted = refl;
  none_named = refl;
}
