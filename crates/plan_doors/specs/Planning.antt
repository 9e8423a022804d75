-- THE DOOR `plan`: the plan of a pattern.
use Rattle.std.specs.Prelude.{ℕ, ◌+◌, ◌*◌, ◌≤◌, cond, eqb, length, take, drop, replicate, Result, Ok, Err}
use Rattle.std.proofs.Math.Bool.{true}
use mathlib.Core.List.{List, [], ◌∷◌, ◌++◌}
use native.Mathlib.Omega.{arith}
use Rattle.std.proofs.Math.Dec.{leb}
use Rattle.law.specs.Limit.{particles, envelope}
use Rattle.law.specs.declared.refusal.Refusal.{Refusal}
use Rattle.law.specs.declared.refusal.Refusal.TheVariants.{TooManyParticles, ShortBuffer, BadPattern, LongEnvelope}
use Rattle.law.specs.Number.{number}
use Rattle.law.specs.Room as room
use Rattle.law.specs.Refusal.{Test, unless, Rising}
use Rattle.law.specs.Promise.{Door}
use Rattle.law.specs.Said.{Said}
use Rattle.matrix_shape.specs.Rows.{at, Pattern}
use Rattle.matrix_shape.specs.Given.{pattern_room, formed}
use Rattle.matrix_shape.specs.Shape.{Shape}
use Rattle.plan_make.specs.Plan.{Plan, four, plan_of, envelope_length}
use Rattle.plan_make.specs.Parts.{Work, five, Made, made, settled}
use Rattle.plan_doors.specs.Said.{planned_said}

pub record In : Type 0 where
  pub n : ℕ
  pub row_offsets : List ℕ
  pub cols : List ℕ
  pub diagonal : List ℕ
  pub plan : Plan
  pub work : Work

pub record Out : Type 0 where
  pub answer : Result ℕ Refusal
  pub said : Said
  pub plan : Plan
  pub work : Work

abbrev pub given : Shape → Plan → Work → In
given p plan work = record { n = p.n; row_offsets = p.row_offsets; cols = p.cols; diagonal = p.diagonal; plan = plan; work = work }

abbrev pub left : Result ℕ Refusal → Plan → Work → Out
left r plan work = record { answer = r; said = planned_said r; plan = plan; work = work }

-- the pattern's own part of each list
abbrev pub own_starts : In → List ℕ
own_starts i = take (i.n + 1) i.row_offsets

abbrev pub own_cols : In → List ℕ
own_cols i = take (at i.row_offsets i.n) i.cols

-- how long the envelope is
unfoldable pub length_for : In → ℕ
length_for i = envelope_length i.n (own_starts i) (own_cols i)

-- what each list needs, and what it has
unfoldable pub planning_room : ℕ → Plan → Work → room.Room
planning_room n p w =
    (n, length p.order)
    ∷ (n, length p.inverse)
    ∷ (2 * n, length p.first)
    ∷ (2 * n + 1, length p.rows)
    ∷ (n, length w.degrees)
    ∷ (n, length w.placed)
    ∷ (n, length w.mark)
    ∷ (n, length w.level)
    ∷ (n, length w.queue)
    ∷ []

-- THE REFUSALS: those that are known before the work, and the one that the work finds
unfoldable pub early : In → List Test
early i =
    unless TooManyParticles (leb i.n particles)
    ∷ unless ShortBuffer (room.enough true (pattern_room i.n i.row_offsets i.cols i.diagonal))
    ∷ unless ShortBuffer (room.enough true (planning_room i.n i.plan i.work))
    ∷ unless BadPattern (formed i.n i.row_offsets i.cols i.diagonal)
    ∷ []

unfoldable pub refusals : In → List Test
refusals i = early i ++ (unless LongEnvelope (leb (length_for i) envelope) ∷ [])

pub in_order : (i : In) → Rising 1 (refusals i)
unfolding early refusals
in_order i = (omega arith, (omega arith, (omega arith, (omega arith, (omega arith, tt)))))

-- a plan over the front of each list, whose rest stays
unfoldable pub laid_over : ℕ → Plan → Plan → Plan
laid_over n p old = four (p.order ++ drop n old.order) (p.inverse ++ drop n old.inverse) (p.first ++ drop (2 * n) old.first)
    (p.rows ++ drop (2 * n + 1) old.rows)

-- zeros in the first n places of each work list
unfoldable pub cleared : ℕ → Work → Work
cleared n w =
    let none : List ℕ = replicate n 0 in
    five (none ++ drop n w.degrees) (none ++ drop n w.placed) (none ++ drop n w.mark) (none ++ drop n w.level) (none ++ drop n w.queue)

unfoldable pub work : In → Out
work i = left (Ok (length_for i)) (laid_over i.n (plan_of i.n (own_starts i) (own_cols i)) i.plan) (cleared i.n i.work)

-- a refusal changes nothing, except that 7 clears the work lists
unfoldable pub refuse : Refusal → In → Out
refuse k i = left (Err k) i.plan (cond (eqb (number k) 7) (cleared i.n i.work) i.work)

abbrev pub door : Door In Out
door = record { tests = refusals; in_order = in_order; work = work; refuse = refuse }

-- ---- what the work requires

pub record Ready (i : In) : Type 0 where
  pub pattern : Pattern i.n i.row_offsets i.cols i.diagonal
  pub order : i.n ≤ length i.plan.order
  pub inverse : i.n ≤ length i.plan.inverse
  pub first : 2 * i.n ≤ length i.plan.first
  pub rows : 2 * i.n + 1 ≤ length i.plan.rows
  pub degrees : i.n ≤ length i.work.degrees
  pub placed : i.n ≤ length i.work.placed
  pub mark : i.n ≤ length i.work.mark
  pub level : i.n ≤ length i.work.level
  pub queue : i.n ≤ length i.work.queue

-- ---- the parts that planning is done on, and what it leaves of the whole

abbrev pub plan_part : ℕ → Plan → Plan
plan_part n p = four (take n p.order) (take n p.inverse) (take (2 * n) p.first) (take (2 * n + 1) p.rows)

abbrev pub work_part : ℕ → Work → Work
work_part n w = five (take n w.degrees) (take n w.placed) (take n w.mark) (take n w.level) (take n w.queue)

unfoldable pub work_over : ℕ → Work → Work → Work
work_over n v w =
    five (v.degrees ++ drop n w.degrees) (v.placed ++ drop n w.placed) (v.mark ++ drop n w.mark) (v.level ++ drop n w.level)
    (v.queue ++ drop n w.queue)

unfoldable pub whole_of : In → Made
whole_of i = made (length_for i) (settled (length_for i) (laid_over i.n (plan_of i.n (own_starts i) (own_cols i)) i.plan) i.plan)
    (cleared i.n i.work)
