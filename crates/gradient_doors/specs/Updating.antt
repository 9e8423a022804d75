-- THE DOOR `update_preconditioner`: each diagonal block's inverse, or the identity. What it is handed and refuses is `gradient_refusals`'.
use Rattle.std.specs.Prelude.{ℕ, ◌*◌, ◌≤◌, ◌≡◌, true, List, length, Float, Ok, Err}
use Rattle.std.proofs.Common.{arith, leb-true}
use Rattle.law.specs.Mix.{mix}
use Rattle.law.proofs.Room.{enough_is}
use Rattle.law.specs.Refusal.{Verdict, verdict}
use Rattle.law.proofs.Refusals.{all_pass}
use Rattle.law.specs.Promise.{Door}
use Rattle.law.specs.Said.{Said}
use Rattle.matrix_shape.specs.Rows.{at, Pattern, row_end}
use Rattle.matrix_shape.specs.Given.{pattern}
use Rattle.gradient_definition.specs.Inverse.{inverse_at, Slots}
pub use Rattle.gradient_refusals.specs.Updating.{In, given, in_order}
unfoldable pub use Rattle.gradient_refusals.specs.Updating.{inverses_room, refusals}
use Rattle.gradient_doors.specs.Said.{updated_said}

pub record Out : Type 0 where
  pub answer : Verdict
  pub said : Said
  pub preconditioner : List Float

abbrev pub left : Verdict → List Float → Out
left r preconditioner = record { answer = r; said = updated_said r; preconditioner = preconditioner }

abbrev pub door : Door In Out
door = record {
  tests = refusals;
  in_order = in_order;
  work = λ i. left (Ok tt) (mix 4 i.n (inverse_at i.diagonal i.blocks) i.preconditioner);
  refuse = λ k i. left (Err k) i.preconditioner;
}

-- what the work requires
pub record Ready (i : In) : Type 0 where
  pub slots : Slots i.n i.diagonal i.blocks
  pub room : 4 * i.n ≤ length i.preconditioner

slots_of : (n : ℕ) (starts cols diagonal : List ℕ) (blocks : List Float) → Pattern n starts cols diagonal → 4 * at starts n ≤ length blocks
    → Slots n diagonal blocks
slots_of n starts cols diagonal blocks p h =
    record { marks = p.held.marks; values = λ r l. omega (arith, (p.formed.home r l).0.1, row_end n (at starts) p.formed.rise r l) }

pub ready : (i : In) → Ok tt ≡ verdict (refusals i) → Ready i
unfolding refusals inverses_room
ready i h =
    let p = all_pass (refusals i) h in
    let e = enough_is true (inverses_room i.n i.row_offsets i.blocks i.preconditioner) p.1.1.0 in
    record {
      slots = slots_of i.n i.row_offsets i.cols i.diagonal i.blocks (pattern i.n i.row_offsets i.cols i.diagonal
          (leb-true _ _ p.0) p.1.0 p.1.1.1.0) e.0;
      room = e.1.0;
    }
