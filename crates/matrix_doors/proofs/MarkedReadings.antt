-- What `make_dirichlet_marked` leaves, computed on three particles in a chain: free ones, the first, the last and two that are joined marked, by
-- whatever byte; and each of its refusals. Assumes nothing.
use Prim.Native.Nat.{ℕ, ◌+◌}
use mathlib.Core.Path.{◌≡◌, refl}
use mathlib.Core.List.{List, [], ◌∷◌, ◌++◌}
use Rattle.std.specs.Prelude.{Ok, Err}
use Rattle.law.specs.declared.refusal.Refusal.TheVariants.{TooManyParticles, ShortBuffer, BadPattern}
use lib.ListN.{replicate}
use lib.Ieee.{Float, binary32, of_bits}
use Rattle.law.specs.Loop.{fold, over}
use Rattle.law.specs.Every.{every, some}
use Rattle.law.specs.Gather.{gather}
use Rattle.law.specs.Room.{enough}
use Rattle.law.specs.Refusal.{verdict}
use Rattle.law.specs.Promise.{outcome}
use Rattle.plane.specs.Lent.{flat}
use Rattle.matrix_shape.specs.Formed.{slot_ok, home_ok, row_ok, stored, mirrors_ok, starts_ok, well_formed}
use Rattle.matrix_shape.specs.Given.{pattern_room, formed}
use Rattle.matrix_values.specs.Blocks.{zero_block, identity}
use Rattle.matrix_pinned.specs.Dirichlet.{pinned, pinned_at}
use Rattle.matrix_pinned.specs.Marked.{pin_step, pinned_marked}
use Rattle.matrix_shape.specs.Shape.{shape}
use Rattle.matrix_doors.specs.PinningMarked.{In, given, left, marked_room, refusals, door}

-- slot k's block before the call: its numbers are those of no other
was : ℕ → List Float
was k = replicate 4 (of_bits binary32 (0x4000_0000 + k))

i : List Float
i = flat identity

o : List Float
o = flat zero_block

-- one number more than the seven blocks have
blocks : List Float
blocks = was 0 ++ was 1 ++ was 2 ++ was 3 ++ was 4 ++ was 5 ++ was 6 ++ (of_bits binary32 7 ∷ [])

handed : List ℕ → List ℕ → List Float → In
handed cols marks l = given (shape 3 (0 ∷ 2 ∷ 5 ∷ 7 ∷ []) cols (0 ∷ 3 ∷ 6 ∷ [])) marks l

chain : List ℕ
chain = 0 ∷ 1 ∷ 0 ∷ 1 ∷ 2 ∷ 1 ∷ 2 ∷ []

record Readings : Type 0 where
  none : outcome door (handed chain (0 ∷ 0 ∷ 0 ∷ []) blocks) ≡ left (Ok tt) blocks
  first : outcome door (handed chain (1 ∷ 0 ∷ 0 ∷ []) blocks)
      ≡ left (Ok tt) (i ++ o ++ o ++ was 3 ++ was 4 ++ was 5 ++ was 6 ++ (of_bits binary32 7 ∷ []))
  last : outcome door (handed chain (0 ∷ 0 ∷ 255 ∷ []) blocks)
      ≡ left (Ok tt) (was 0 ++ was 1 ++ was 2 ++ was 3 ++ o ++ o ++ i ++ (of_bits binary32 7 ∷ []))
  -- a mark behind the third is no particle's
  joined : outcome door (handed chain (2 ∷ 128 ∷ 0 ∷ 1 ∷ []) blocks)
      ≡ left (Ok tt) (i ++ o ++ o ++ i ++ o ++ o ++ was 6 ++ (of_bits binary32 7 ∷ []))
  many : outcome door (given (shape 1025 [] [] []) [] blocks) ≡ left (Err TooManyParticles) blocks
  few_marks : outcome door (handed chain (1 ∷ 1 ∷ []) blocks) ≡ left (Err ShortBuffer) blocks
  few_blocks : outcome door (handed chain (1 ∷ 1 ∷ 1 ∷ []) (was 0 ++ was 1)) ≡ left (Err ShortBuffer) (was 0 ++ was 1)
  one_way : outcome door (handed (0 ∷ 1 ∷ 0 ∷ 1 ∷ 2 ∷ 0 ∷ 2 ∷ []) (1 ∷ 1 ∷ 1 ∷ []) blocks) ≡ left (Err BadPattern) blocks

readings : Readings
unfolding handed chain was i o blocks outcome refusals marked_room verdict enough pattern_room formed well_formed starts_ok row_ok slot_ok home_ok mirrors_ok
    stored every some over fold gather pinned_marked pin_step pinned pinned_at
readings = record { none = refl; first = refl; last = refl; joined = refl; many = refl; few_marks = refl; few_blocks = refl; one_way = refl }
