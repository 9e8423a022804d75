use Rattle.matrix_row_view.proofs.Showing.{ready}
use Rattle.matrix_row_view.proofs.row_col.Goals as goal

pub row_col-requires : goal.row_col-requires
row_col-requires c = ready _ c.in_ok-row.ensures
