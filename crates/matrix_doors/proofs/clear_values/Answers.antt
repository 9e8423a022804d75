use Rattle.std.proofs.Common.{arith}
use Rattle.matrix_doors.specs.Clearing.{ready}
use Rattle.matrix_doors.proofs.clear_values.Goals as goal

pub slots-requires : goal.slots-requires
slots-requires c = (ready _ c.in_ok-clearing.ensures).pattern.held.places

pub clear_values-requires : goal.clear_values-requires
clear_values-requires c = omega (arith, (ready _ c.in_ok-clearing.ensures).blocks, c.slots.ensures.same)
