-- What the two building calls' answers say, computed through their outcomes: each kind of answer of each call. Assumes nothing.
use Prim.Native.Nat.{ℕ}
use mathlib.Core.Path.{◌≡◌, refl}
use mathlib.Core.List.{List, [], ◌∷◌}
use lib.ListN.{replicate}
use lib.Ieee.{Float, nan}
use Rattle.law.specs.Loop.{fold, over}
use Rattle.law.specs.Every.{every, some}
use Rattle.law.specs.Gather.{gather, up_to}
use Rattle.law.specs.Room.{enough}
use Rattle.law.specs.Refusal.{verdict}
use Rattle.law.specs.Promise.{outcome}
use Rattle.law.specs.Said.{refused, carries}
use Rattle.matrix_shape.specs.Made.{row_of, cols_of, start_of, slot_of, starts_of, slots_of}
use Rattle.matrix_pairs.specs.Pairs.{joined, stored_by}
use Rattle.matrix_build.specs.Build.{built_of}
use Rattle.matrix_building.specs.Building as building
use Rattle.matrix_building.specs.FromPairs as frompairs

abbrev zeros : ℕ → List ℕ
zeros k = replicate k 0

abbrev floats : ℕ → List Float
floats k = replicate k nan

-- so many particles and no pair, in lists for two
alone : ℕ → building.In
alone n = building.given n 0 [] (zeros 3) (zeros 2) (zeros 2) []

record Readings : Type 0 where
  -- a pattern says its number of blocks; each refusal its number
  built : (outcome building.door (alone 2)).said ≡ carries 0 (2 ∷ []) []
  not_built : (outcome building.door (alone 1025)).said ≡ refused 1
  filled : (outcome frompairs.door (frompairs.given (alone 2) (floats 8))).pattern.said ≡ carries 0 (2 ∷ []) []
  not_filled : (outcome frompairs.door (frompairs.given (alone 2) (floats 7))).pattern.said ≡ refused 3

readings : Readings
unfolding alone outcome building.refusals building.work building.lists_room frompairs.refusals frompairs.work frompairs.values_room verdict enough every
    some over fold built_of stored_by joined starts_of slots_of cols_of start_of slot_of row_of gather up_to
readings = record { built = refl; not_built = refl; filled = refl; not_filled = refl }
