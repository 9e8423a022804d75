-- THE DOOR `factorize`: the factor of the matrix, in the order and the envelope of its plan.
use Rattle.std.specs.Prelude.{ℕ, ◌*◌, ◌≤◌, ◌<◌, ◌≡◌, true, List, [], ◌∷◌, ◌++◌, leb, length, drop, Float, Result, Ok, Err}
use Rattle.std.proofs.Common.{ap, arith, leb-true}
use Rattle.law.specs.Limit.{particles, envelope}
use Rattle.law.specs.declared.refusal.Refusal.{Refusal}
use Rattle.law.specs.declared.refusal.Refusal.TheVariants.{TooManyParticles, ShortBuffer, BadPattern, BadPlan, LongEnvelope}
use Rattle.law.specs.Room.{Room, enough}
use Rattle.law.proofs.Room.{enough_is}
use Rattle.law.specs.Refusal.{Test, unless, Rising, verdict}
use Rattle.law.proofs.Refusals.{all_pass}
use Rattle.law.specs.Promise.{Door}
use Rattle.law.specs.Said.{Said}
use Rattle.matrix_shape.specs.Rows.{at}
use Rattle.matrix_shape.specs.Given.{pattern_room, formed, pattern}
use Rattle.matrix_shape.specs.Shape.{Shape}
use Rattle.plan_fits.specs.Fits.{Fits, fits_ok}
use Rattle.plan_fits.proofs.Fits.{fits_is}
use Rattle.plan_fits.specs.Lists.{Laid}
use Rattle.plan_fits.specs.Given.{plan_room, factor_length, laid}
use Rattle.plan_fits.specs.Layout.{Layout}
use Rattle.factor_load.specs.Load.{Loads, loads_of}
use Rattle.factor_make.specs.Factored.{Factored}
use Rattle.factor_make.specs.Factor.{State, state}
use Rattle.factor_make.specs.Matrix.{matrix_of}
use Rattle.factor_doors.specs.Said.{factored_said}

pub record In : Type 0 where
  pub n : ℕ
  pub row_offsets : List ℕ
  pub cols : List ℕ
  pub diagonal : List ℕ
  pub blocks : List Float
  pub perm : List ℕ
  pub inv_perm : List ℕ
  pub first : List ℕ
  pub row_start : List ℕ
  pub values : List Float

-- a refusal is one thing, a pivot that fails another
abbrev pub Answer : Type 0
Answer = Result Factored Refusal

pub record Out : Type 0 where
  pub answer : Answer
  pub said : Said
  pub values : List Float

abbrev pub given : Shape → List Float → Layout → List Float → In
given p blocks l values =
    record {
      n = p.n;
      row_offsets = p.row_offsets;
      cols = p.cols;
      diagonal = p.diagonal;
      blocks = blocks;
      perm = l.perm;
      inv_perm = l.inv_perm;
      first = l.first;
      row_start = l.row_start;
      values = values;
    }

abbrev pub left : Answer → List Float → Out
left r values = record { answer = r; said = factored_said r; values = values }

-- what the two lists of floats need, and what they have
unfoldable pub values_room : ℕ → List ℕ → List Float → List ℕ → List Float → Room
values_room n starts blocks begins values = (4 * at starts n, length blocks) ∷ (factor_length n begins, length values) ∷ []

-- THE REFUSALS
unfoldable pub refusals : In → List Test
refusals i =
    unless TooManyParticles (leb i.n particles)
    ∷ unless ShortBuffer (enough true (pattern_room i.n i.row_offsets i.cols i.diagonal))
    ∷ unless ShortBuffer (enough true (plan_room i.n i.perm i.inv_perm i.first i.row_start))
    ∷ unless ShortBuffer (enough true (values_room i.n i.row_offsets i.blocks i.row_start i.values))
    ∷ unless BadPattern (formed i.n i.row_offsets i.cols i.diagonal)
    ∷ unless BadPlan (fits_ok i.n (at i.row_offsets) (at i.cols) (at i.perm) (at i.inv_perm) (at i.first) (at i.row_start))
    ∷ unless LongEnvelope (leb (factor_length i.n i.row_start) envelope)
    ∷ []

pub in_order : (i : In) → Rising 1 (refusals i)
unfolding refusals
in_order i = (omega arith, (omega arith, (omega arith, (omega arith, (omega arith, (omega arith, (omega arith, tt)))))))

-- the factor over the front of the values
unfoldable pub state_of : In → State
state_of i = matrix_of i.n (at i.row_offsets) (at i.cols) i.blocks (at i.inv_perm) (at i.first) (at i.row_start)

unfoldable pub work : In → Out
work i = left (Ok (state_of i).how) ((state_of i).values ++ drop (factor_length i.n i.row_start) i.values)

abbrev pub door : Door In Out
door = record { tests = refusals; in_order = in_order; work = work; refuse = λ k i. left (Err k) i.values }

-- what the work requires
pub record Ready (i : In) : Type 0 where
  pub few : i.n ≤ particles
  pub begins : 2 * i.n < length i.row_start
  pub loads : Loads i.n i.row_offsets i.cols i.blocks i.inv_perm i.first i.row_start
  pub values : at i.row_start (2 * i.n) ≤ length i.values

pub ready : (i : In) → Ok tt ≡ verdict (refusals i) → Ready i
unfolding refusals values_room factor_length
ready i h =
    let p = all_pass (refusals i) h in
    let few : i.n ≤ particles = leb-true _ _ p.0 in
    let places : Laid i.n i.perm i.inv_perm i.first i.row_start = laid i.n i.perm i.inv_perm i.first i.row_start few
    p.1.1.0 in
    let e = enough_is true (values_room i.n i.row_offsets i.blocks i.row_start i.values) p.1.1.1.0 in
    let fits : Fits i.n (at i.row_offsets) (at i.cols) (at i.perm) (at i.inv_perm) (at i.first) (at i.row_start) = fits_is _ _ _
    _ _ _ _ p.1.1.1.1.1.0 in
    record {
      few = few;
      begins = places.begins;
      loads = loads_of (pattern i.n i.row_offsets i.cols i.diagonal few p.1.0 p.1.1.1.1.0) places fits e.0;
      values = e.1.0;
    }

-- the work on the front of the values, v being what it left there, seen as a whole; len is the front's length
pub whole_is : (i : In) (h : Factored) (v : List Float) (len : ℕ) → len ≡ factor_length i.n i.row_start → state h v ≡ matrix_of i.n
    (at i.row_offsets) (at i.cols) i.blocks (at i.inv_perm) (at i.first) (at i.row_start)
    → left (Ok h) (v ++ drop len i.values) ≡ work i
unfolding work state_of
whole_is i h v len l e = rw l (ap (λ (t : State). left (Ok t.how) (t.values ++ drop (factor_length i.n i.row_start) i.values)) e)
