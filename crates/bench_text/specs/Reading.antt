-- READING A TEXT: what is answered, and what is left in the lent room.
use Rattle.std.specs.Prelude.{ℕ, ◌*◌, ◌≤◌, ◌≡◌, true, List, [], ◌∷◌, ◌++◌, length, take, drop, leb, Result, Ok, Err}
use Rattle.std.proofs.Common.{arith}
use Rattle.law.specs.Limit.{particles, pairs}
use Rattle.law.specs.Number.{number}
use Rattle.law.specs.declared.refusal.Refusal.{Refusal}
use Rattle.law.specs.declared.refusal.Refusal.TheVariants.{ShortBuffer}
use Rattle.law.specs.Refusal.{Test, Verdict, unless, Rising}
use Rattle.law.specs.Promise.{Door}
use Rattle.law.specs.Said.{Said, refused, carries}
use Rattle.bench_text.specs.Text.{described, particle_count, pair_count, pair_numbers}
use Rattle.bench_text.specs.Head.{counts_of}
use Rattle.bench_text.specs.Nine.{limits, verdict_by, PromiseBy}
use Rattle.bench_text.specs.declared.inner.Counts.{Counts}

pub record In : Type 0 where
  pub text : List ℕ
  pub room : List ℕ

-- WHAT READING SAYS: the two counts
abbrev pub input_said : Result Counts Refusal → Said
input_said (Err k) = refused (number k)
input_said (Ok c) = carries 0 (c.n ∷ c.pairs ∷ []) []

pub record Out : Type 0 where
  pub answer : Result Counts Refusal
  pub said : Said
  pub room : List ℕ

abbrev pub given : List ℕ → List ℕ → In
given text room = record { text = text; room = room }

abbrev pub left : Result Counts Refusal → List ℕ → Out
left r room = record { answer = r; said = input_said r; room = room }

-- THE REFUSALS of a text that is as described, by its counts and the room
unfoldable pub tests : ℕ → ℕ → ℕ → List Test
tests n p room = limits n p ++ (unless ShortBuffer (leb (2 * p) room) ∷ [])

abbrev pub refusals : In → List Test
refusals i = tests (particle_count i.text) (pair_count i.text) (length i.room)

pub in_order : (i : In) → Rising 1 (refusals i)
unfolding tests limits
in_order i = (omega arith, (omega arith, (omega arith, tt)))

-- THE WORK: the pairs' numbers over the front of the room, whose rest stays
unfoldable pub work : In → Out
work i = left (Ok (counts_of (particle_count i.text) (pair_count i.text))) (pair_numbers i.text ++ drop (2 * pair_count i.text) i.room)

abbrev pub refuse : Refusal → In → Out
refuse k i = left (Err k) i.room

abbrev pub reading : Door In Out
reading = record { tests = refusals; in_order = in_order; work = work; refuse = refuse }

-- 9 precedes all
abbrev pub verdict_of : In → Verdict
verdict_of i = verdict_by i.text (refusals i)

-- what `read` promises
abbrev pub Reads : In → Out → Type 0
Reads i o = PromiseBy reading i.text i o

-- ---- what an answer says to the caller

pub record Accepted (s room z : List ℕ) (n p : ℕ) : Type 0 where
  pub zero : verdict_of (given s room) ≡ Ok tt
  pub right : described s ≡ true
  pub first : n ≡ particle_count s
  pub second : p ≡ pair_count s
  pub few : n ≤ particles
  pub few_pairs : p ≤ pairs
  pub fits : 2 * p ≤ length room
  pub front : take (2 * p) z ≡ pair_numbers s
