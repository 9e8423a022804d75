use Rattle.matrix_row_view.proofs.Showing.{ready}
use Rattle.matrix_row_view.proofs.row_slot.Goals as goal

pub row_slot-requires : goal.row_slot-requires
row_slot-requires c = ready _ c.in_ok-row.ensures
