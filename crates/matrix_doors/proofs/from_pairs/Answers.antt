use Rattle.matrix_building.proofs.FromPairs.{ready}
use Rattle.matrix_doors.proofs.from_pairs.Goals as goal

pub build_with_values-requires : goal.build_with_values-requires
build_with_values-requires c = ready _ c.in_ok-from_pairs.ensures
