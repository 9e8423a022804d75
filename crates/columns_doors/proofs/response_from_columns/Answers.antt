use Rattle.columns_combine.specs.Combining.{ready}
use Rattle.columns_doors.proofs.response_from_columns.Goals as goal

pub combine-requires : goal.combine-requires
combine-requires c = ready _ c.in_ok-combining.ensures
