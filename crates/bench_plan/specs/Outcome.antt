-- WHAT PAIRS COME TO: their pattern and its plan, or a refusal; and what a text does, by its pairs.
use Rattle.std.specs.Prelude.{ℕ, ◌+◌, ◌*◌, List, [], ◌∷◌, ◌++◌, leb, take, Result, Ok, Err}
use Rattle.std.proofs.Common.{arith}
use Rattle.law.specs.Every.{every}
use Rattle.law.specs.Limit.{envelope}
use Rattle.law.specs.declared.refusal.Refusal.{Refusal}
use Rattle.law.specs.declared.refusal.Refusal.TheVariants.{OutOfRange, LongEnvelope}
use Rattle.law.specs.Refusal.{Test, Verdict, unless, Rising}
use Rattle.law.specs.Promise.{Door}
use Rattle.matrix_shape.specs.Made.{starts_of, cols_of}
use Rattle.matrix_shape.specs.Rows.{at}
use Rattle.matrix_pairs.specs.Pairs.{pair_ok_at, stored_by}
use Rattle.plan_make.specs.Plan.{plan_of, envelope_length}
use Rattle.bench_text.specs.Text.{particle_count, pair_count, pair_numbers}
use Rattle.bench_text.specs.Nine.{limits, verdict_by, outcome_by}
use Rattle.bench_plan.specs.declared.inner.Draft.{Draft}

-- the pattern of n particles and the first count pairs
abbrev pub starts_by : ℕ → ℕ → List ℕ → List ℕ
starts_by n count pairs = starts_of n (stored_by pairs count)

abbrev pub cols_by : ℕ → ℕ → List ℕ → List ℕ
cols_by n count pairs = cols_of n (stored_by pairs count)

-- the order of its plan, the first columns, and the envelope's length
unfoldable pub order_by : ℕ → ℕ → List ℕ → List ℕ
order_by n count pairs = (plan_of n (starts_by n count pairs) (cols_by n count pairs)).order

unfoldable pub first_by : ℕ → ℕ → List ℕ → List ℕ
first_by n count pairs = (plan_of n (starts_by n count pairs) (cols_by n count pairs)).first

unfoldable pub length_by : ℕ → ℕ → List ℕ → ℕ
length_by n count pairs = envelope_length n (starts_by n count pairs) (cols_by n count pairs)

-- what a text that is as described gives
pub record In : Type 0 where
  pub n : ℕ
  pub count : ℕ
  pub pairs : List ℕ

abbrev pub given : ℕ → ℕ → List ℕ → In
given n count pairs = record { n = n; count = count; pairs = pairs }

-- what is tested once the counts are within the limits
unfoldable pub later : In → List Test
later i =
    unless OutOfRange (every (pair_ok_at i.n i.pairs) 0 i.count)
    ∷ unless LongEnvelope (leb (length_by i.n i.count i.pairs) envelope)
    ∷ []

-- THE REFUSALS. 3 is no text's: the program has the room. 5 and 6 are none's either: pattern and plan are the program's own
unfoldable pub refusals : In → List Test
refusals i = limits i.n i.count ++ later i

pub in_order : (i : In) → Rising 1 (refusals i)
unfolding refusals limits later
in_order i = (omega arith, (omega arith, (omega arith, (omega arith, tt))))

-- how many particles there are, and how long the envelope is
abbrev pub draft : ℕ → ℕ → Draft
draft n len = record { n = n; envelope = len }

-- the answer, and the parts of the lists that hold pattern and plan
pub record Out : Type 0 where
  pub answer : Result Draft Refusal
  pub starts : List ℕ
  pub cols : List ℕ
  pub order : List ℕ
  pub first : List ℕ

abbrev pub out : Result Draft Refusal → List ℕ → List ℕ → List ℕ → List ℕ → Out
out r starts cols order first = record { answer = r; starts = starts; cols = cols; order = order; first = first }

-- what whole lists hold by the answer: after a refusal nothing, whatever stands there
unfoldable pub left : Result Draft Refusal → List ℕ → List ℕ → List ℕ → List ℕ → Out
left (Err k) starts cols order first = out (Err k) [] [] [] []
left (Ok d) starts cols order first = out (Ok d) (take (d.n + 1) starts) (take (at starts d.n) cols) (take d.n order) (take (2 * d.n) first)

unfoldable pub work : In → Out
work i =
    out (Ok (draft i.n (length_by i.n i.count i.pairs))) (starts_by i.n i.count i.pairs) (cols_by i.n i.count i.pairs)
    (order_by i.n i.count i.pairs)
    (first_by i.n i.count i.pairs)

abbrev pub refuse : Refusal → In → Out
refuse k i = out (Err k) [] [] [] []

-- as a door, so that lowest number first is every door's law
abbrev pub planning : Door In Out
planning = record { tests = refusals; in_order = in_order; work = work; refuse = refuse }

-- ---- of a text

abbrev pub given_by : List ℕ → In
given_by text = given (particle_count text) (pair_count text) (pair_numbers text)

-- the verdict on a text. 9 precedes all
unfoldable pub verdict_for : List ℕ → Verdict
verdict_for text = verdict_by text (refusals (given_by text))

unfoldable pub planned_for : List ℕ → Out
planned_for text = outcome_by planning text (given_by text)
