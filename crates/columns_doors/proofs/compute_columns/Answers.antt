-- What the call beneath promises is what this one does; an edit turns this line.
use Rattle.columns_doors.proofs.compute_columns.Goals as goal

pub returns : goal.returns
returns c = c.compute_columns.ensures
