use Rattle.matrix_building.proofs.Building.{ready}
use Rattle.matrix_doors.proofs.pattern_from_pairs.Goals as goal

pub build-requires : goal.build-requires
build-requires c = ready _ c.in_ok-building.ensures
