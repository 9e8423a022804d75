-- What follows of specs/Showing.antt: its theorems, apart from the definitions.
use Rattle.std.specs.Prelude.{◌≡◌, true, Ok}
use Rattle.std.proofs.Common.{arith, leb-true, ltb-true}
use Rattle.law.proofs.Room.{enough_is}
use Rattle.law.specs.Refusal.{verdict}
use Rattle.law.proofs.Refusals.{all_pass}
use Rattle.matrix_row_view.specs.Showing.{In, Ready, refusals, rows_room}

pub ready : (i : In) → Ok tt ≡ verdict (refusals i) → Ready i
unfolding refusals rows_room
ready i h =
    let p = all_pass (refusals i) h in
    let e = enough_is true (rows_room i.n i.row_offsets i.cols) p.1.0 in
    record { few = leb-true _ _ p.0; places = omega (arith, e.0); columns = e.1.0; row = ltb-true _ _ p.1.1.0 }
