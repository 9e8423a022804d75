use Rattle.matrix_doors.specs.PinningMarked.{ready}
use Rattle.matrix_doors.proofs.make_dirichlet_marked.Goals as goal

pub make_dirichlet_marked-requires : goal.make_dirichlet_marked-requires
make_dirichlet_marked-requires c = ready _ c.in_ok-pinning_marked.ensures
