-- THE DOOR `answer`: what it answers, and what it leaves in the lent room.
use Rattle.std.specs.Prelude.{ℕ, List, [], ◌∷◌, ◌++◌, leb, length, drop, Result, Ok, Err}
use Rattle.std.proofs.Common.{arith}
use Rattle.law.specs.Number.{number}
use Rattle.law.specs.declared.refusal.Refusal.{Refusal}
use Rattle.law.specs.declared.refusal.Refusal.TheVariants.{ShortBuffer}
use Rattle.law.specs.Promise.{Door}
use Rattle.law.specs.Refusal.{Test, unless, Rising}
use Rattle.law.specs.Said.{Said, refused, carries}
use Rattle.bench_text.specs.Text.{particle_count, pair_count, pair_numbers}
use Rattle.bench_text.specs.Nine.{limits, PromiseBy}
use Rattle.bench_print.specs.Lines.{plan_text, lines_room}
use Rattle.bench_plan.specs.Outcome as plan

-- what a text that is as described gives, and the room
pub record In : Type 0 where
  pub n : ℕ
  pub count : ℕ
  pub pairs : List ℕ
  pub out : List ℕ

-- WHAT AN ANSWER SAYS: how many bytes were written
abbrev pub answered_said : Result ℕ Refusal → Said
answered_said (Err k) = refused (number k)
answered_said (Ok k) = carries 0 (k ∷ []) []

pub record Out : Type 0 where
  pub answer : Result ℕ Refusal
  pub said : Said
  pub out : List ℕ

abbrev pub given : ℕ → ℕ → List ℕ → List ℕ → In
given n count pairs out = record { n = n; count = count; pairs = pairs; out = out }

abbrev pub left : Result ℕ Refusal → List ℕ → Out
left r out = record { answer = r; said = answered_said r; out = out }

-- as planning is given it
abbrev pub planned : In → plan.In
planned i = plan.given i.n i.count i.pairs

-- THE REFUSALS of a text that is as described: 1 and 2; 3, room for the lines of n particles; 4 and 7. 5 and 6 are none's: pattern and plan are
-- the call's own
unfoldable pub refusals : In → List Test
refusals i = limits i.n i.count ++ (unless ShortBuffer (leb (lines_room i.n) (length i.out)) ∷ plan.later (planned i))

pub in_order : (i : In) → Rising 1 (refusals i)
unfolding refusals limits plan.later
in_order i = (omega arith, (omega arith, (omega arith, (omega arith, (omega arith, tt)))))

-- THE WORK: the lines of the plan over the front of the room, whose rest stays
unfoldable pub lines_of : In → List ℕ
lines_of i = plan_text (plan.order_by i.n i.count i.pairs) (plan.length_by i.n i.count i.pairs)

unfoldable pub work : In → Out
work i = left (Ok (length (lines_of i))) (lines_of i ++ drop (length (lines_of i)) i.out)

abbrev pub refuse : Refusal → In → Out
refuse k i = left (Err k) i.out

abbrev pub answering : Door In Out
answering = record { tests = refusals; in_order = in_order; work = work; refuse = refuse }

-- ---- of a text

abbrev pub given_by : List ℕ → List ℕ → In
given_by text out = given (particle_count text) (pair_count text) (pair_numbers text) out

-- WHAT `answer` PROMISES. 9 precedes all
abbrev pub Answers : List ℕ → List ℕ → Out → Type 0
Answers text out o = PromiseBy answering text (given_by text out) o
