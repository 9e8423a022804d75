-- THE DOORS THAT ASK FOR A SLOT: `block_index` and `diagonal_index`. They change nothing, so the answer is all that they leave.
use Rattle.std.specs.Prelude.{ℕ, ◌<◌, ◌≡◌, true, List, [], ◌∷◌, leb, ltb, Result, Ok, Err}
use Rattle.std.proofs.Common.{arith, leb-true, ltb-true}
use Rattle.law.specs.Limit.{particles}
use Rattle.law.specs.declared.refusal.Refusal.TheVariants.{TooManyParticles, ShortBuffer, OutOfRange, BadPattern}
use Rattle.law.specs.Room.{enough}
use Rattle.law.specs.Refusal.{Test, unless, Rising, verdict}
use Rattle.law.proofs.Refusals.{all_pass}
use Rattle.law.specs.Promise.{Door}
use Rattle.law.specs.Said.{Said}
use Rattle.matrix_shape.specs.Rows.{at, Pattern}
use Rattle.matrix_shape.specs.Index.{index_of}
use Rattle.matrix_shape.specs.Given.{pattern_room, formed, pattern}
use Rattle.law.specs.declared.refusal.Refusal.{Refusal}
use Rattle.matrix_shape.specs.Shape.{Shape}
use Rattle.matrix_doors.specs.Said.{found_said}

-- what the calls are handed; block_index is handed a column besides
pub record In : Type 0 where
  pub n : ℕ
  pub row_offsets : List ℕ
  pub cols : List ℕ
  pub diagonal : List ℕ
  pub row : ℕ

abbrev pub given : Shape → ℕ → In
given p row = record { n = p.n; row_offsets = p.row_offsets; cols = p.cols; diagonal = p.diagonal; row = row }

pub record Out : Type 0 where
  pub answer : Result ℕ Refusal
  pub said : Said

abbrev pub left : Result ℕ Refusal → Out
left r = record { answer = r; said = found_said r }

-- THE REFUSALS
unfoldable pub refusals : In → List Test
refusals i =
    unless TooManyParticles (leb i.n particles)
    ∷ unless ShortBuffer (enough true (pattern_room i.n i.row_offsets i.cols i.diagonal))
    ∷ unless OutOfRange (ltb i.row i.n)
    ∷ unless BadPattern (formed i.n i.row_offsets i.cols i.diagonal)
    ∷ []

pub in_order : (i : In) → Rising 1 (refusals i)
unfolding refusals
in_order i = (omega arith, (omega arith, (omega arith, (omega arith, tt))))

abbrev pub block_door : ℕ → Door In Out
block_door col = record {
  tests = refusals;
  in_order = in_order;
  work = λ i. left (Ok (index_of (at i.row_offsets) (at i.cols) i.row col));
  refuse = λ k i. left (Err k);
}

abbrev pub diagonal_door : Door In Out
diagonal_door = record { tests = refusals; in_order = in_order; work = λ i. left (Ok (at i.diagonal i.row)); refuse = λ k i. left (Err k) }

-- what the work requires
pub record Ready (i : In) : Type 0 where
  pub pattern : Pattern i.n i.row_offsets i.cols i.diagonal
  pub row : i.row < i.n

pub ready : (i : In) → Ok tt ≡ verdict (refusals i) → Ready i
unfolding refusals
ready i h =
    let p = all_pass (refusals i) h in
    record {
      pattern = pattern i.n i.row_offsets i.cols i.diagonal (leb-true _ _ p.0) p.1.0 p.1.1.1.0;
      row = ltb-true _ _
          p.1.1.0;
    }
