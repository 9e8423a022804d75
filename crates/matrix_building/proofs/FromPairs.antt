-- What follows of specs/FromPairs.antt: its theorems, apart from the definitions.
use Rattle.std.specs.Prelude.{◌≡◌, true, List, Float, Ok}
use Rattle.std.proofs.Common.{ap₂}
use Rattle.law.specs.Mix.{mix}
use Rattle.law.proofs.Room.{enough_is}
use Rattle.law.specs.Refusal.{verdict}
use Rattle.law.proofs.Refusals.{all_pass}
use Rattle.plane.specs.Lent.{flat}
use Rattle.matrix_build.specs.Build.{room_of}
use Rattle.matrix_values.specs.Blocks.{zero_block}
use Rattle.matrix_building.specs.Building as building
use Rattle.matrix_building.proofs.Building as building_lemmas
use Rattle.matrix_building.specs.FromPairs.{In, Ready, left, refusals, values_room, work}

pub ready : (i : In) → Ok tt ≡ verdict (refusals i) → Ready i
unfolding refusals values_room
ready i h =
    let p = all_pass (refusals i) h in
    record {
      pattern = building_lemmas.ready_of i.pattern p.0 p.1.0 p.1.1.0 p.1.1.1.1.0;
      in_blocks = (enough_is true (values_room i.pattern.n i.pattern.count i.blocks) p.1.1.1.0).0;
    }

pub worked : (i : In) (o : building.Out) (blocks : List Float) → o ≡ building.work i.pattern
    → blocks ≡ mix 4 (room_of i.pattern.n i.pattern.count) (λ k. flat zero_block) i.blocks
    → left o blocks ≡ work i
unfolding work
worked i o blocks e f = ap₂ left e f
