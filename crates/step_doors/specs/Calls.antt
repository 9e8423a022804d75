-- THE TALLY OVER ANY SEQUENCE OF CALLS, each with any input: from a fresh record the sum is the lesser of the cap and
-- the number of step solves asked for, and each count is the number of its kind among the first so many.
use Rattle.std.specs.Prelude.{◌≡◌, refl, List, [], ◌∷◌, ◌⊎◌, Bool, true, false, cond, min, length, take, Float, Result, Ok, Err, None, Some}
use Rattle.std.proofs.Common.{ap, ◌∙◌, inl, inr}
use Rattle.law.specs.Limit.{tally}
use Rattle.law.specs.declared.refusal.Refusal.{Refusal}
use Rattle.law.specs.Refusal.{Verdict, verdict}
use Rattle.law.specs.Promise.{by, outcome, Counted}
use Rattle.step_tally.specs.declared.Tally.{Tally}
use Rattle.step_tally.specs.declared.Kind.{Kind}
use Rattle.step_tally.specs.declared.Kind.TheVariants.{Refused}
use Rattle.step_tally.specs.Count.{Asked, total_of, counted_of}
use Rattle.step_tally.specs.Runs.{fresh, count_of, after, solves, of_kind, sum_is, count_is}
use Rattle.step_solve.specs.declared.Stepped.{Stepped}
use Rattle.step_solve.specs.declared.Stepped.TheVariants as steps
use Rattle.step_solve.specs.Stepping as S
use Rattle.step_entries.specs.Entries.{raw_gain, gain_of}
use Rattle.step_response.specs.Responding as R
use Rattle.step_counts.specs.Counting.{asked_of, asked_by, after_step, after_response}

-- a call of `solve_step` or of `response_into`, with all that it is handed but the record
abbrev pub Call : Type 0
Call = S.In ⊎ R.In

-- what it asks for
abbrev pub asks : Call → Asked
asks (inl i) = asked_of (outcome S.door i).answer
asks (inr i) = asked_by (outcome R.door i).answer

-- ---- what a response asks for: nothing exactly if it is accepted and no entry is left; refused, one refused call; else the step solve of its right-hand side

pub asks_nothing : (i : R.In) → verdict (R.refusals i) ≡ Ok tt → R.asks i ≡ false → asks (inr i) ≡ None
unfolding outcome R.work R.idle
asks_nothing i v f =
    ap (λ (v : Verdict). asked_by (by v (R.work i) (λ j. (R.door).refuse j i)).answer) v ∙ ap (λ (b : Bool). asked_by (cond b (R.answered i) (R.idle i)).answer) f

pub asks_refused : (i : R.In) (k : Refusal) → verdict (R.refusals i) ≡ Err k → asks (inr i) ≡ Some Refused
unfolding outcome
asks_refused i k v = ap (λ (v : Verdict). asked_by (by v (R.work i) (λ j. (R.door).refuse j i)).answer) v

asked_as : (s : Result Stepped Refusal) (g : Float) → asked_by (R.answer_of s g) ≡ asked_of s
asked_as (Err k) g = refl
asked_as (Ok steps.Direct) g = refl
asked_as (Ok (steps.Iterated o)) g = refl

pub asks_one : (i : R.In) → verdict (R.refusals i) ≡ Ok tt → R.asks i ≡ true → asks (inr i) ≡ asked_of (S.work (R.for_step i (R.rhs_of i))).answer
unfolding outcome R.work R.answered
asks_one i v f =
    let s = S.work (R.for_step i (R.rhs_of i)) in
    ap (λ (v : Verdict). asked_by (by v (R.work i) (λ j. (R.door).refuse j i)).answer) v ∙ ap (λ (b : Bool). asked_by (cond b (R.answered i) (R.idle i)).answer) f
    ∙ asked_as s.answer (gain_of (raw_gain i.pinned i.count i.particles i.gradients s.x))

-- ---- a sequence of calls

pub asks_of : List Call → List Asked
asks_of [] = []
asks_of (c ∷ l) = asks c ∷ asks_of l

-- a call that keeps its promise turns the record t into u
abbrev pub Made : Call → Tally → Tally → Type 0
Made (inl i) t u = (o : S.Out) × Counted S.door after_step i t o u
Made (inr i) t u = (o : R.Out) × Counted R.door after_response i t o u

-- the calls, one after the other, turn the record t into u
abbrev pub MadeAll : List Call → Tally → Tally → Type 0
MadeAll [] t u = u ≡ t
MadeAll (c ∷ l) t u = (v : Tally) × (Made c t v × MadeAll l v u)

made_is : (c : Call) (t u : Tally) → Made c t u → u ≡ counted_of t (asks c)
made_is (inl i) t u m = m.1.1 ∙ ap (after_step t) m.1.0
made_is (inr i) t u m = m.1.1 ∙ ap (after_response t) m.1.0

pub all_is : (l : List Call) (t u : Tally) → MadeAll l t u → u ≡ after tally t (asks_of l)
unfolding after asks_of
all_is [] t u m = m
all_is (c ∷ l) t u m = all_is l m.0 u m.1.1 ∙ ap (λ (v : Tally). after tally v (asks_of l)) (made_is c t m.0 m.1.0)

-- THE SUM
pub sum_of_calls : (l : List Call) (u : Tally) → MadeAll l fresh u → total_of u ≡ min tally (length (solves (asks_of l)))
sum_of_calls l u m = ap total_of (all_is l fresh u m) ∙ sum_is (asks_of l)

-- EACH COUNT
pub count_of_calls : (l : List Call) (u : Tally) (j : Kind) → MadeAll l fresh u → count_of u j ≡ of_kind j (take tally (solves (asks_of l)))
count_of_calls l u j m = ap (λ (t : Tally). count_of t j) (all_is l fresh u m) ∙ count_is (asks_of l) j
