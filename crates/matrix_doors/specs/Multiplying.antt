-- THE DOOR `mul`: out is the product of the matrix and x.
use Rattle.std.specs.Prelude.{ℕ, ◌*◌, ◌≤◌, ◌≡◌, true, List, [], ◌∷◌, length, leb, Float, Ok, Err}
use Rattle.std.proofs.Common.{arith, leb-true}
use Rattle.law.specs.Limit.{particles}
use Rattle.law.specs.Mix.{mix}
use Rattle.law.specs.declared.refusal.Refusal.TheVariants.{TooManyParticles, ShortBuffer, BadPattern}
use Rattle.law.specs.Room.{Room, enough}
use Rattle.law.proofs.Room.{enough_is}
use Rattle.law.specs.Refusal.{Test, Verdict, unless, Rising, verdict}
use Rattle.law.proofs.Refusals.{all_pass}
use Rattle.law.specs.Promise.{Door}
use Rattle.law.specs.Said.{Said}
use Rattle.matrix_shape.specs.Rows.{at, Pattern}
use Rattle.matrix_shape.specs.Given.{pattern_room, formed, pattern}
use Rattle.matrix_values.specs.Product.{product_at}
use Rattle.matrix_shape.specs.Shape.{Shape}
use Rattle.matrix_doors.specs.Said.{ran_said}

pub record In : Type 0 where
  pub n : ℕ
  pub row_offsets : List ℕ
  pub cols : List ℕ
  pub diagonal : List ℕ
  pub blocks : List Float
  pub x : List Float
  pub out : List Float

pub record Out : Type 0 where
  pub answer : Verdict
  pub said : Said
  pub out : List Float

abbrev pub given : Shape → List Float → List Float → List Float → In
given p blocks x out = record { n = p.n; row_offsets = p.row_offsets; cols = p.cols; diagonal = p.diagonal; blocks = blocks; x = x; out = out }

abbrev pub left : Verdict → List Float → Out
left r out = record { answer = r; said = ran_said r; out = out }

-- what the values and vectors need, and what they have
unfoldable pub values_room : ℕ → List ℕ → List Float → List Float → List Float → Room
values_room n starts blocks x out = (4 * at starts n, length blocks) ∷ (2 * n, length x) ∷ (2 * n, length out) ∷ []

-- THE REFUSALS
unfoldable pub refusals : In → List Test
refusals i =
    unless TooManyParticles (leb i.n particles)
    ∷ unless ShortBuffer (enough true (pattern_room i.n i.row_offsets i.cols i.diagonal))
    ∷ unless ShortBuffer (enough true (values_room i.n i.row_offsets i.blocks i.x i.out))
    ∷ unless BadPattern (formed i.n i.row_offsets i.cols i.diagonal)
    ∷ []

pub in_order : (i : In) → Rising 1 (refusals i)
unfolding refusals
in_order i = (omega arith, (omega arith, (omega arith, (omega arith, tt))))

abbrev pub door : Door In Out
door = record {
  tests = refusals;
  in_order = in_order;
  work = λ i. left (Ok tt) (mix 2 i.n (product_at i.row_offsets i.cols i.blocks i.x) i.out);
  refuse = λ k i. left (Err k) i.out;
}

-- what the work requires
pub record Ready (i : In) : Type 0 where
  pub pattern : Pattern i.n i.row_offsets i.cols i.diagonal
  pub room : (4 * at i.row_offsets i.n ≤ length i.blocks) × (2 * i.n ≤ length i.x) × (2 * i.n ≤ length i.out)

pub ready : (i : In) → Ok tt ≡ verdict (refusals i) → Ready i
unfolding refusals values_room
ready i h =
    let p = all_pass (refusals i) h in
    let e = enough_is true (values_room i.n i.row_offsets i.blocks i.x i.out) p.1.1.0 in
    record {
      pattern = pattern i.n i.row_offsets i.cols i.diagonal (leb-true _ _ p.0) p.1.0 p.1.1.1.0;
      room = (e.0, e.1.0, e.1.1.0);
    }
