-- The builder's readings (RULES.md § 11), computed on the definitions: what the door leaves in every list. Assumes nothing.
use Prim.Native.Nat.{ℕ}
use mathlib.Core.Path.{◌≡◌, refl}
use mathlib.Core.List.{List, [], ◌∷◌}
use Rattle.std.specs.Prelude.{Ok, Err}
use Rattle.law.specs.declared.refusal.Refusal.TheVariants.{TooManyParticles, TooManyEntries, OutOfRange}
use lib.ListN.{replicate}
use Rattle.law.specs.Loop.{fold, over}
use Rattle.law.specs.Every.{every, some}
use Rattle.law.specs.Gather.{gather, up_to}
use Rattle.law.specs.Room.{enough}
use Rattle.law.specs.Refusal.{verdict}
use Rattle.law.specs.Promise.{outcome}
use Rattle.matrix_shape.specs.Made.{row_of, cols_of, start_of, slot_of, starts_of, slots_of}
use Rattle.matrix_pairs.specs.Pairs.{joined, stored_by}
use Rattle.matrix_build.specs.Build.{built_of}
use Rattle.matrix_building.specs.Building.{In, given, left, lists_room, refusals, work, door}

-- lists full of sevens, with two places more than a call with so many pairs needs
handed : ℕ → ℕ → List ℕ → ℕ → In
handed n count pairs room = given n count pairs (replicate room 7) (replicate room 7) (replicate room 7) (replicate room 7)

record Readings : Type 0 where
  -- pairs 0-1, 1-0, 0-1, 1-1: starts 0 2 4, columns 0 1 0 1, diagonals 0 3; zeros past the columns; rests as they were
  repeats : outcome door (handed 2 4 (0 ∷ 1 ∷ 1 ∷ 0 ∷ 0 ∷ 1 ∷ 1 ∷ 1 ∷ []) 12)
      ≡ left (Ok 4) (0 ∷ 2 ∷ 4 ∷ 7 ∷ 7 ∷ 7 ∷ 7 ∷ 7 ∷ 7 ∷ 7 ∷ 7 ∷ 7 ∷ []) (0 ∷ 1 ∷ 0 ∷ 1 ∷ 0 ∷ 0 ∷ 0 ∷ 0 ∷ 0 ∷ 0 ∷ 7 ∷ 7 ∷ [])
      (0 ∷ 3 ∷ 7 ∷ 7 ∷ 7 ∷ 7 ∷ 7 ∷ 7 ∷ 7 ∷ 7 ∷ 7 ∷ 7 ∷ []) (0 ∷ 0 ∷ 0 ∷ 0 ∷ 0 ∷ 0 ∷ 0 ∷ 0 ∷ 7 ∷ 7 ∷ 7 ∷ 7 ∷ [])
  -- pair 9-9 alone is ignored
  ghost : outcome door (handed 2 1 (9 ∷ 9 ∷ []) 4) ≡ left (Ok 2) (0 ∷ 1 ∷ 2 ∷ 7 ∷ []) (0 ∷ 1 ∷ 0 ∷ 0 ∷ []) (0 ∷ 1 ∷ 7 ∷ 7 ∷ []) (0 ∷ 0 ∷ 7 ∷ 7 ∷ [])
  -- pair 0-2 is refusal 4, and changes nothing
  beyond : outcome door (handed 2 1 (0 ∷ 2 ∷ []) 4) ≡ left (Err OutOfRange) (7 ∷ 7 ∷ 7 ∷ 7 ∷ []) (7 ∷ 7 ∷ 7 ∷ 7 ∷ []) (7 ∷ 7 ∷ 7 ∷ 7 ∷ []) (7 ∷ 7 ∷ 7 ∷ 7 ∷ [])
  -- 1,025 particles and 4,097 pairs, whatever the lists
  many : outcome door (given 1025 4097 [] [] [] [] []) ≡ left (Err TooManyParticles) [] [] [] []
  pairs : outcome door (given 1024 4097 [] [] [] [] []) ≡ left (Err TooManyEntries) [] [] [] []

readings : Readings
unfolding handed outcome refusals work verdict enough lists_room every some over fold built_of stored_by joined starts_of slots_of cols_of start_of slot_of
    row_of gather up_to
readings = record { repeats = refl; ghost = refl; beyond = refl; many = refl; pairs = refl }
