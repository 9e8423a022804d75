use Rattle.matrix_row_view.proofs.Showing.{ready}
use Rattle.matrix_row_view.proofs.row_span.Goals as goal

pub row_span-requires : goal.row_span-requires
row_span-requires c = ready _ c.in_ok-row.ensures
