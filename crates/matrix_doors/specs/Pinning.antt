-- THE DOOR `make_dirichlet`: a row pinned.
use Rattle.std.specs.Prelude.{ℕ, ◌*◌, ◌≤◌, ◌<◌, ◌≡◌, true, List, [], ◌∷◌, length, leb, ltb, Float, Ok, Err}
use Rattle.std.proofs.Common.{arith, leb-true, ltb-true}
use Rattle.law.specs.Limit.{particles}
use Rattle.law.specs.Mix.{mix}
use Rattle.law.specs.declared.refusal.Refusal.TheVariants.{TooManyParticles, ShortBuffer, OutOfRange, BadPattern}
use Rattle.law.specs.Room.{enough}
use Rattle.law.proofs.Room.{enough_is}
use Rattle.law.specs.Refusal.{Test, Verdict, unless, Rising, verdict}
use Rattle.law.proofs.Refusals.{all_pass}
use Rattle.law.specs.Promise.{Door}
use Rattle.law.specs.Said.{Said}
use Rattle.matrix_shape.specs.Rows.{at, Pattern}
use Rattle.matrix_shape.specs.Given.{pattern_room, blocks_room, formed, pattern}
use Rattle.matrix_shape.specs.Shape.{Shape}
use Rattle.matrix_pinned.specs.Dirichlet.{pinned}
use Rattle.matrix_doors.specs.Said.{ran_said}

pub record In : Type 0 where
  pub n : ℕ
  pub row_offsets : List ℕ
  pub cols : List ℕ
  pub diagonal : List ℕ
  pub row : ℕ
  pub blocks : List Float

pub record Out : Type 0 where
  pub answer : Verdict
  pub said : Said
  pub blocks : List Float

abbrev pub given : Shape → ℕ → List Float → In
given p row blocks = record { n = p.n; row_offsets = p.row_offsets; cols = p.cols; diagonal = p.diagonal; row = row; blocks = blocks }

abbrev pub left : Verdict → List Float → Out
left r blocks = record { answer = r; said = ran_said r; blocks = blocks }

-- THE REFUSALS
unfoldable pub refusals : In → List Test
refusals i =
    unless TooManyParticles (leb i.n particles)
    ∷ unless ShortBuffer (enough true (pattern_room i.n i.row_offsets i.cols i.diagonal))
    ∷ unless ShortBuffer (enough true (blocks_room i.n i.row_offsets i.blocks))
    ∷ unless OutOfRange (ltb i.row i.n)
    ∷ unless BadPattern (formed i.n i.row_offsets i.cols i.diagonal)
    ∷ []

pub in_order : (i : In) → Rising 1 (refusals i)
unfolding refusals
in_order i = (omega arith, (omega arith, (omega arith, (omega arith, (omega arith, tt)))))

abbrev pub door : Door In Out
door = record {
  tests = refusals;
  in_order = in_order;
  work = λ i. left (Ok tt) (mix 4 (at i.row_offsets i.n) (pinned i.row_offsets i.cols i.row i.blocks) i.blocks);
  refuse = λ k i. left (Err k) i.blocks;
}

-- what the work requires
pub record Ready (i : In) : Type 0 where
  pub pattern : Pattern i.n i.row_offsets i.cols i.diagonal
  pub row : i.row < i.n
  pub blocks : 4 * at i.row_offsets i.n ≤ length i.blocks

pub ready : (i : In) → Ok tt ≡ verdict (refusals i) → Ready i
unfolding refusals blocks_room
ready i h =
    let p = all_pass (refusals i) h in
    record {
      pattern = pattern i.n i.row_offsets i.cols i.diagonal (leb-true _ _ p.0) p.1.0 p.1.1.1.1.0;
      row = ltb-true _ _ p.1.1.1.0;
      blocks = (enough_is true (blocks_room i.n i.row_offsets i.blocks) p.1.1.0).0;
    }
