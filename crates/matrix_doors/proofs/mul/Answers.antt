use Rattle.matrix_shape.specs.Rows.{rows_of}
use Rattle.matrix_doors.specs.Multiplying.{ready}
use Rattle.matrix_doors.proofs.mul.Goals as goal

pub mul-requires : goal.mul-requires
mul-requires c =
    let r = ready _ c.in_ok-multiplying.ensures in
    record { rows = rows_of _ _ _ _ r.pattern; n_in_bounds = r.room }
