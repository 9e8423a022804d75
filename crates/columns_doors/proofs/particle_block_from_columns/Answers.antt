use Rattle.columns_block.specs.Blocking.{ready}
use Rattle.columns_doors.proofs.particle_block_from_columns.Goals as goal

pub block-requires : goal.block-requires
block-requires c = ready _ c.in_ok-blocking.ensures
