-- What the doors' answers say, computed through their outcomes: each kind of answer of each call. Assumes nothing.
use Prim.Native.Nat.{ℕ}
use mathlib.Core.Path.{◌≡◌, refl}
use mathlib.Core.List.{List, [], ◌∷◌}
use lib.ListN.{replicate}
use lib.Ieee.{Float, nan}
use Rattle.law.specs.Loop.{fold, over}
use Rattle.law.specs.Every.{every, some}
use Rattle.law.specs.Find.{seek, find}
use Rattle.law.specs.Room.{enough}
use Rattle.law.specs.Refusal.{verdict}
use Rattle.law.specs.Promise.{outcome}
use Rattle.law.specs.Said.{refused, carries}
use Rattle.matrix_shape.specs.Formed.{slot_ok, home_ok, row_ok, stored, mirrors_ok, starts_ok, well_formed}
use Rattle.matrix_shape.specs.Given.{pattern_room, blocks_room, formed}
use Rattle.matrix_shape.specs.Index.{index_of}
use Rattle.matrix_shape.specs.Shape.{Shape, shape}
use Rattle.matrix_doors.specs.Indexing as indexing
use Rattle.matrix_doors.specs.Clearing as clearing
use Rattle.matrix_doors.specs.Multiplying as multiplying
use Rattle.matrix_doors.specs.Pinning as pinning
use Rattle.matrix_doors.specs.PinningMarked as pinningmarked

abbrev floats : ℕ → List Float
floats k = replicate k nan

-- two particles that are joined, and a row of theirs
asked : ℕ → indexing.In
asked row = indexing.given (shape 2 (0 ∷ 2 ∷ 4 ∷ []) (0 ∷ 1 ∷ 0 ∷ 1 ∷ []) (0 ∷ 3 ∷ [])) row

-- one particle, and what is lent as its diagonal's slot
alone : ℕ → Shape
alone slot = shape 1 (0 ∷ 1 ∷ []) (0 ∷ []) (slot ∷ [])

record Readings : Type 0 where
  -- a slot says its place, and what only works that it is done; each refusal its number
  slot : (outcome (indexing.block_door 0) (asked 1)).said ≡ carries 0 (2 ∷ []) []
  no_slot : (outcome (indexing.block_door 0) (asked 2)).said ≡ refused 4
  diagonal : (outcome indexing.diagonal_door (asked 1)).said ≡ carries 0 (3 ∷ []) []
  no_diagonal : (outcome indexing.diagonal_door (asked 2)).said ≡ refused 4
  cleared : (outcome clearing.door (clearing.given (alone 0) (floats 4))).said ≡ carries 0 [] []
  not_cleared : (outcome clearing.door (clearing.given (alone 0) (floats 3))).said ≡ refused 3
  multiplied : (outcome multiplying.door (multiplying.given (alone 0) (floats 4) (floats 2) (floats 2))).said ≡ carries 0 [] []
  not_multiplied : (outcome multiplying.door (multiplying.given (alone 1) (floats 4) (floats 2) (floats 2))).said ≡ refused 5
  pinned : (outcome pinning.door (pinning.given (alone 0) 0 (floats 4))).said ≡ carries 0 [] []
  not_pinned : (outcome pinning.door (pinning.given (alone 0) 1 (floats 4))).said ≡ refused 4
  all_pinned : (outcome pinningmarked.door (pinningmarked.given (alone 0) (1 ∷ []) (floats 4))).said ≡ carries 0 [] []
  none_pinned : (outcome pinningmarked.door (pinningmarked.given (alone 0) [] (floats 4))).said ≡ refused 3

readings : Readings
unfolding asked alone outcome indexing.refusals clearing.refusals multiplying.refusals multiplying.values_room pinning.refusals pinningmarked.refusals
    pinningmarked.marked_room verdict enough pattern_room blocks_room formed well_formed starts_ok row_ok slot_ok home_ok mirrors_ok stored index_of find seek
    every some over fold
readings = record {
  slot = refl;
  no_slot = refl;
  diagonal = refl;
  no_diagonal = refl;
  cleared = refl;
  not_cleared = refl;
  multiplied = refl;
  not_multiplied = refl;
  pinned = refl;
  not_pinned = refl;
  all_pinned = refl;
  none_pinned = refl;
}
