use Rattle.columns_table.specs.Loading.{ready}
use Rattle.columns_doors.proofs.load_particle.Goals as goal

pub load-requires : goal.load-requires
load-requires c = ready _ c.in_ok-loading.ensures
