use Rattle.matrix_doors.specs.Pinning.{ready}
use Rattle.matrix_doors.proofs.make_dirichlet.Goals as goal

pub make_dirichlet-requires : goal.make_dirichlet-requires
make_dirichlet-requires c =
    let r = ready _ c.in_ok-pinning.ensures in
    record { pattern = r.pattern; row_lt_n = r.row; n_in_bounds = r.blocks }
