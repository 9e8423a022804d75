use Rattle.matrix_shape.specs.Index.{line_of}
use Rattle.matrix_doors.specs.Indexing.{ready}
use Rattle.matrix_doors.proofs.block_index.Goals as goal

pub block_index-requires : goal.block_index-requires
block_index-requires c = let r = ready _ c.in_ok-row.ensures in line_of _ _ _ _ r.pattern _ r.row
