-- THE DOOR `make_dirichlet_marked`: every marked row pinned.
use Rattle.std.specs.Prelude.{ℕ, ◌*◌, ◌≡◌, true, List, [], ◌∷◌, length, leb, Float, Ok, Err}
use Rattle.std.proofs.Common.{arith, leb-true, sym}
use Rattle.law.specs.Limit.{particles}
use Rattle.law.specs.declared.refusal.Refusal.TheVariants.{TooManyParticles, ShortBuffer, BadPattern}
use Rattle.law.specs.Room.{Room, enough}
use Rattle.law.proofs.Room.{enough_is}
use Rattle.law.specs.Refusal.{Test, Verdict, unless, Rising, verdict}
use Rattle.law.proofs.Refusals.{all_pass}
use Rattle.law.specs.Promise.{Door}
use Rattle.law.specs.Said.{Said}
use Rattle.matrix_shape.specs.Rows.{at}
use Rattle.matrix_shape.specs.Given.{pattern_room, formed, pattern}
use Rattle.matrix_shape.specs.Shape.{Shape}
use Rattle.matrix_pinned.specs.Marked.{pinned_marked, Marked, Pins, Reach}
use Rattle.matrix_pinned.proofs.AnyOrder.{marked_pins}
use Rattle.matrix_doors.specs.Said.{ran_said}

pub record In : Type 0 where
  pub n : ℕ
  pub row_offsets : List ℕ
  pub cols : List ℕ
  pub diagonal : List ℕ
  pub marks : List ℕ
  pub blocks : List Float

pub record Out : Type 0 where
  pub answer : Verdict
  pub said : Said
  pub blocks : List Float

abbrev pub given : Shape → List ℕ → List Float → In
given p marks blocks = record { n = p.n; row_offsets = p.row_offsets; cols = p.cols; diagonal = p.diagonal; marks = marks; blocks = blocks }

abbrev pub left : Verdict → List Float → Out
left r blocks = record { answer = r; said = ran_said r; blocks = blocks }

-- what the marks and the values need, and what they have
unfoldable pub marked_room : ℕ → List ℕ → List ℕ → List Float → Room
marked_room n starts marks blocks = (n, length marks) ∷ (4 * at starts n, length blocks) ∷ []

-- THE REFUSALS
unfoldable pub refusals : In → List Test
refusals i =
    unless TooManyParticles (leb i.n particles)
    ∷ unless ShortBuffer (enough true (pattern_room i.n i.row_offsets i.cols i.diagonal))
    ∷ unless ShortBuffer (enough true (marked_room i.n i.row_offsets i.marks i.blocks))
    ∷ unless BadPattern (formed i.n i.row_offsets i.cols i.diagonal)
    ∷ []

pub in_order : (i : In) → Rising 1 (refusals i)
unfolding refusals
in_order i = (omega arith, (omega arith, (omega arith, (omega arith, tt))))

abbrev pub door : Door In Out
door = record {
  tests = refusals;
  in_order = in_order;
  work = λ i. left (Ok tt) (pinned_marked i.n i.row_offsets i.cols i.marks i.blocks);
  refuse = λ k i. left (Err k) i.blocks;
}

-- what the work requires
pub ready : (i : In) → Ok tt ≡ verdict (refusals i) → Reach i.n i.row_offsets i.cols i.diagonal i.marks i.blocks
unfolding refusals marked_room
ready i h =
    let p = all_pass (refusals i) h in
    let e = enough_is true (marked_room i.n i.row_offsets i.marks i.blocks) p.1.1.0 in
    record {
      pattern = pattern i.n i.row_offsets i.cols i.diagonal (leb-true _ _ p.0) p.1.0 p.1.1.1.0;
      marked = e.0;
      blocks = e.1.0;
    }

-- WHAT THE CALL LEAVES, block by block, wherever it isn't refused
pub leaves : (i : In) → verdict (refusals i) ≡ Ok tt → Pins i.n i.row_offsets i.cols i.diagonal (Marked i.marks) i.blocks (door.work i).blocks
leaves i h = let w = ready i (sym h) in marked_pins i.n i.row_offsets i.cols i.diagonal w.pattern i.blocks w.blocks i.marks
