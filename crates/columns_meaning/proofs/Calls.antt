-- The tally over any sequence of calls, computing included. Assumes nothing.
use Rattle.std.specs.Prelude.{Ok, Err}
use Prim.Native.Nat.{◌+◌}
use native.Mathlib.Omega.{arith}
use mathlib.Core.Path.{◌≡◌, refl, sym, ap, ◌∙◌}
use mathlib.Core.List.{List, [], ◌∷◌}
use mathlib.Core.Logic.{inl, inr}
use lib.ListN.{length}
use Rattle.law.specs.Limit.{tally}
use Rattle.law.specs.declared.refusal.Refusal.{Refusal}
use Rattle.law.specs.Refusal.{Verdict, verdict}
use Rattle.law.specs.Promise.{Promise, by, outcome}
use Rattle.step_tally.specs.declared.Tally.{Tally}
use Rattle.step_tally.specs.Count.{Asked}
use Rattle.step_tally.specs.declared.Kind.TheVariants.{Refused}
use Rattle.std.specs.Prelude.{Some}
use Rattle.step_tally.specs.Count.{total_of}
use Rattle.step_tally.specs.Runs.{fresh, count_of, after, solves, sum_to, sum_is, count_is}
use Rattle.step_counts.specs.Counting.{after_step, after_response}
use Rattle.columns_make.specs.Making.{In, Out, ready, refusals, work, door}
use Rattle.columns_meaning.specs.Solution.{solved, asked_at, asks}
use Rattle.columns_meaning.specs.Calls.{Call, lending, asked, asks_of, Made, MadeAll, AsksTwoEach, SumOfCalls, CountOfCalls}
use Rattle.columns_meaning.proofs.Loop.{after_append}
use Rattle.columns_meaning.proofs.Tally.{all_ran, counted, two_each}
use Rattle.columns_meaning.proofs.Whole.{tally_is}

-- the record that is lent decides neither the refusals nor what is asked for
refusals_same : (i : In) (t : Tally) → refusals (lending i t) ≡ refusals i
unfolding refusals
refusals_same i t = refl

asks_same : (i : In) (t : Tally) → asks (lending i t) ≡ asks i
unfolding asks asked_at solved
asks_same i t = refl

-- what computing asks for, by its verdict
taken : (i : In) → verdict (refusals i) ≡ Ok tt → asked (inr i) ≡ asks i
taken i v = rw v

refused_once : (i : In) (k : Refusal) → verdict (refusals i) ≡ Err k → asked (inr i) ≡ Some Refused ∷ []
refused_once i k v = rw v

module _ (i : In) (t : Tally) (o : Out) (h : Promise door (lending i t) o) where
  accepted : verdict (refusals i) ≡ Ok tt → o.tally ≡ after tally t (asked (inr i))
  accepted v =
      let w : verdict (refusals (lending i t)) ≡ Ok tt = ap verdict (refusals_same i t) ∙ v in
      (tally_is (lending i t) o h w).lent ∙ ap (after tally t) (asks_same i t ∙ sym (taken i v))

  turned_away : (k : Refusal) → verdict (refusals i) ≡ Err k → o.tally ≡ after tally t (asked (inr i))
  unfolding outcome after
  turned_away k v =
      let w : verdict (refusals (lending i t)) ≡ Err k = ap verdict (refusals_same i t) ∙ v in
      ap (λ (q : Out). q.tally) (h ∙ ap (λ (v : Verdict). by v (work (lending i t)) (λ m. door.refuse m (lending i t))) w)
      ∙ ap (after tally t) (sym (refused_once i k v))

  computed : o.tally ≡ after tally t (asked (inr i))
  computed = pick (verdict (refusals i)) refl
    where
      pick : (v : Verdict) → verdict (refusals i) ≡ v → o.tally ≡ after tally t (asked (inr i))
      pick (Ok tt) e = accepted e
      pick (Err k) e = turned_away k e

-- any call, and any calls
made_is : (c : Call) (t u : Tally) → Made c t u → u ≡ after tally t (asked c)
unfolding after
made_is (inl (inl i)) t u m = m.1.1 ∙ ap (after_step t) m.1.0
made_is (inl (inr i)) t u m = m.1.1 ∙ ap (after_response t) m.1.0
made_is (inr i) t u m = m.1.1 ∙ computed i t m.0 m.1.0

all_is : (l : List Call) (t u : Tally) → MadeAll l t u → u ≡ after tally t (asks_of l)
unfolding asks_of after
all_is [] t u m = m
all_is (c ∷ l) t u m =
    all_is l m.0 u m.1.1 ∙ ap (λ (v : Tally). after tally v (asks_of l)) (made_is c t m.0 m.1.0) ∙ sym (after_append tally t (asked c) (asks_of l))

-- THE SUM, and EACH COUNT
pub sum_of_calls : SumOfCalls
sum_of_calls l u m = ap total_of (all_is l fresh u m) ∙ sum_is (asks_of l)

pub count_of_calls : CountOfCalls
count_of_calls l u j m = ap (λ (t : Tally). count_of t j) (all_is l fresh u m) ∙ count_is (asks_of l) j

-- how many an accepted computing asks for: what a record under a cap that isn't met counts
pub asks_two_each : AsksTwoEach
asks_two_each i v =
    let many = two_each i (ready i (sym v)).numbered in
    let cap = length (asks i) + 1 in
    let q = counted cap fresh (asks i) (all_ran i) (omega arith) in
    omega (arith, ap (λ (l : List Asked). length (solves l)) (taken i v), sum_to cap (asks i), q.0)
