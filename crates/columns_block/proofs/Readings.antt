-- Readings of a particle's block, computed through its door's outcome: two particles, the first of them loaded; the list that may be written has a place too
-- many, and NaN in all. Assumes nothing.
use Prim.Native.Nat.{ℕ}
use mathlib.Core.Path.{◌≡◌, refl}
use mathlib.Core.List.{List, [], ◌∷◌, ◌++◌}
use lib.Ieee.{Float, nan, binary32, of_bits, add, mul}
use lib.ListN.{replicate}
use Rattle.std.specs.Prelude.{Result, Ok, Err, Option, None, Some}
use Rattle.law.specs.declared.refusal.Refusal.{Refusal}
use Rattle.law.specs.declared.refusal.Refusal.TheVariants.{TooManyParticles, ShortBuffer, OutOfRange, BadPlan}
use Rattle.law.specs.Loop.{fold, over}
use Rattle.law.specs.Every.{every}
use Rattle.law.specs.Sum.{sum, bit}
use Rattle.law.specs.Gather.{gather}
use Rattle.law.specs.Room.{enough}
use Rattle.law.specs.Refusal.{verdict}
use Rattle.law.specs.Promise.{outcome}
use Rattle.law.specs.Said.{refused, carries}
use Rattle.plane.specs.Plane.{Block, pair, zero32, one32}
use Rattle.columns_table.specs.Lent.{numbering}
use Rattle.columns_table.specs.Table.{entry_ok, times, numbered, table_ok}
use Rattle.columns_combine.specs.Combining as C
use Rattle.columns_combine.proofs.Samples.{two, three, infinite, column, unpinned, second, both, one, bare}
use Rattle.columns_block.specs.Blocking as B

-- the greatest f32
abbrev greatest : Float
greatest = of_bits binary32 0x7f7f_ffff

-- and half of it
abbrev greatest_half : Float
greatest_half = of_bits binary32 0x7eff_ffff

-- out for a block: NaN in its 4n places and one past them
abbrev wide : List Float
wide = replicate 9 nan

block : List ℕ → ℕ → List ℕ → List Float → ℕ → B.Out
block pinned loaded table columns particle = outcome B.door (B.given 2 (numbering pinned loaded table) columns particle wide)

refuses : Refusal → B.Out
refuses k = B.left (Err k) wide

-- a block by its four numbers, column after column
abbrev found : Float → Float → Float → Float → Result (Option Block) Refusal
found a b c d = Ok (Some (pair (pair a b) (pair c d)))

-- a block of zeros, zeros in all of the 4n places
nought : B.Out
nought = B.left (found zero32 zero32 zero32 zero32) (replicate 8 zero32 ++ nan ∷ [])

record Blocks : Type 0 where
  -- both columns, axis 0 first; the block ((1, 2), (4, 3)) at the particle becomes ((1, 3), (3, 3))
  loaded : block unpinned 1 one column 0 ≡ B.left (found one32 three three three) (column ++ nan ∷ [])
  -- of the columns by their number, at the particle's own place
  by_number : block unpinned 2 (1 ∷ 0 ∷ []) (column ++ replicate 8 nan) 1 ≡ B.left (found three three three one32) (column ++ nan ∷ [])
  -- the sum comes before the half: what is too great for an f32 becomes infinite
  overflows : block unpinned 1 one (greatest ∷ greatest ∷ zero32 ∷ zero32 ∷ zero32 ∷ two ∷ zero32 ∷ zero32 ∷ []) 0
      ≡ B.left (found infinite greatest_half greatest_half two) (greatest ∷ greatest ∷ zero32 ∷ zero32 ∷ zero32 ∷ two ∷ zero32 ∷ zero32 ∷ nan ∷ [])
  -- a pinned particle's is zero, whatever the table has for the others; one that isn't loaded leaves out as it was
  pinned : block second 1 one column 1 ≡ nought
  pinned_bare : block both 0 bare [] 0 ≡ nought
  not_loaded : block unpinned 1 one column 1 ≡ B.left (Ok None) wide
  -- what is said: 0 and the four numbers, 7, or the refusal's number
  says_block : (block unpinned 1 one column 0).said ≡ carries 0 [] (one32 ∷ three ∷ three ∷ three ∷ [])
  says_pinned : (block second 1 one column 1).said ≡ carries 0 [] (zero32 ∷ zero32 ∷ zero32 ∷ zero32 ∷ [])
  says_missing : (block unpinned 1 one column 1).said ≡ carries 7 [] []
  says_no : (block unpinned 1 one column 2).said ≡ refused 4
  -- by number, lowest first: 1 before 3 before 4 before 6
  one_refused : outcome B.door (B.given 1025 (numbering [] 17 []) [] 1025 wide) ≡ refuses TooManyParticles
  short_pinned : block (0 ∷ []) 1 one column 2 ≡ refuses ShortBuffer
  short_table : block unpinned 1 (0 ∷ []) column 2 ≡ refuses ShortBuffer
  short_columns : block unpinned 1 one (replicate 7 one32) 2 ≡ refuses ShortBuffer
  short_out : outcome B.door (B.given 2 (numbering unpinned 1 one) column 2 (replicate 7 nan)) ≡ B.left (Err ShortBuffer) (replicate 7 nan)
  four_refused : block unpinned 1 bare column 2 ≡ refuses OutOfRange
  six_refused : block unpinned 1 bare column 0 ≡ refuses BadPlan
  pinned_since : block (1 ∷ 0 ∷ []) 1 one column 0 ≡ refuses BadPlan
  -- 17 are loaded: 3 with room for 16 columns, 6 with room for 17. The need is a whole number that no machine word bounds
  room_16 : outcome B.door (B.given 1 (numbering (0 ∷ []) 17 (0 ∷ [])) (replicate 64 one32) 0 wide) ≡ refuses ShortBuffer
  room_17 : outcome B.door (B.given 1 (numbering (0 ∷ []) 17 (0 ∷ [])) (replicate 68 one32) 0 wide) ≡ refuses BadPlan
  endless_count : outcome B.door (B.given 1 (numbering (0 ∷ []) 4611686018427387904 (0 ∷ [])) (replicate 4 one32) 0 wide) ≡ refuses ShortBuffer
  none_named : outcome B.door (B.given 0 (numbering [] 1 []) [] 0 wide) ≡ refuses OutOfRange

blocks : Blocks
unfolding block refuses nought outcome verdict enough B.refusals C.columns_room B.work B.copied B.symmetrised table_ok numbered entry_ok times sum bit every gather
    over fold of_bits add mul
blocks = record {
  loaded = refl;
  by_number = refl;
  overflows = refl;
  pinned = refl;
  pinned_bare = refl;
  not_loaded = refl;
  says_block = refl;
  says_pinned = refl;
  says_missing = refl;
  says_no = refl;
  one_refused = refl;
  short_pinned = refl;
  short_table = refl;
  short_columns = refl;
  short_out = refl;
  four_refused = refl;
  six_refused = refl;
  pinned_since = refl;
  room_16 = refl;
  room_17 = refl;
  endless_count = refl;
  none_named = refl;
}
