-- What the solves are counted as: two for each loaded particle, none of them refused. Assumes nothing.
use Prim.Native.Nat.{ℕ, zero, suc, ◌+◌, ◌*◌, ◌≤◌, ◌<◌}
use native.Mathlib.Omega.{arith}
use mathlib.Core.Path.{◌≡◌, refl, sym, ap, ◌∙◌}
use mathlib.Core.Bool.{Bool, true, false, cond}
use mathlib.Core.List.{List, [], ◌∷◌, ◌++◌}
use mathlib.Core.Logic.{⊎_elim}
use lib.Dec.{eqb}
use lib.ListN.{length}
use borrow.Author.Tests.{eqb-true, eq-eqb, ne_eqb, lt-ltb}
use Rattle.law.specs.Limit.{tally, unloaded}
use Rattle.law.specs.Truth.{same_or}
use Rattle.law.proofs.Loop.{over_keeps, from}
use Rattle.law.specs.Gather.{gather, up_to}
use Rattle.law.proofs.Gather.{up_to_none, up_to_more}
use Rattle.law.specs.Sum.{sum, bit, sum_none, sum_more, sum_same, sum_plus, sum_swap, none_of, one_of}
use Rattle.matrix_shape.specs.Rows.{at}
use Rattle.gradient_definition.specs.declared.Outcome.{Outcome}
use Rattle.gradient_definition.specs.declared.Outcome.TheVariants.{Zero, Near, Converged, Curvature, Limit}
use Rattle.step_solve.specs.declared.Stepped.TheVariants as steps
use Rattle.step_solve.specs.Stepping as S
use Rattle.step_tally.specs.declared.Kind.{Kind}
use Rattle.step_tally.specs.declared.Kind.TheVariants as kinds
use Rattle.step_tally.specs.Count.{Asked}
use Rattle.std.specs.Prelude.{Some, Ok}
use Rattle.step_tally.specs.declared.Tally.{Tally}
use Rattle.step_tally.specs.Count.{number, total_of, one_more, counted_to}
use Rattle.step_tally.specs.Runs.{fresh, after}
use Rattle.step_counts.specs.Counting.{asked_of}
use Rattle.columns_table.specs.Table.{Numbered}
use Rattle.columns_table.specs.Test.{one_passes}
use Rattle.columns_make.specs.Making.{In, ended_of}
use Rattle.columns_meaning.specs.Solution.{unit_at, solve_for, solved, asked_for, asked_at, asks}
use Rattle.columns_meaning.specs.Computed.{Ran, sum_of}
use Rattle.columns_meaning.proofs.Step.{by_factor, iterate, work_is}

-- ---- a solve that ran

ran_as : (k : Kind) (a : Asked) → a ≡ Some k → number k < 6 → Ran a
ran_as k a e l = (k, (e, λ r. let six : number k ≡ 6 = ap number r in omega arith))

outcome_ran : (o : Outcome) → Ran (asked_of (Ok (steps.Iterated o)))
outcome_ran (Zero count) = ran_as kinds.Zero _ refl (omega arith)
outcome_ran (Near count residual) = ran_as kinds.Near _ refl (omega arith)
outcome_ran (Converged count residual) = ran_as kinds.Converged _ refl (omega arith)
outcome_ran (Curvature count residual denominator) = ran_as kinds.Curvature _ refl (omega arith)
outcome_ran (Limit count residual) = ran_as kinds.Limit _ refl (omega arith)

route_ran : (t : Bool) (o : Outcome) → Ran (asked_of (Ok (cond t steps.Direct (steps.Iterated o))))
route_ran true o = ran_as kinds.Direct _ refl (omega arith)
route_ran false o = outcome_ran o

pub ran : (i : In) (p k : ℕ) → Ran (asked_for i p k)
unfolding solved
ran i p k = rw (ap (λ (o : S.Out). asked_of o.answer) (work_is (solve_for i p k)))
    (route_ran (by_factor (solve_for i p k)) (iterate (solve_for i p k) (unit_at i.n p k)).how)

-- ---- the record after such solves

abbrev AllRan : List Asked → Type 0
AllRan [] = Unit {0}
AllRan (a ∷ l) = Ran a × AllRan l

both_ran : (l m : List Asked) → AllRan l → AllRan m → AllRan (l ++ m)
both_ran [] m h g = g
both_ran (a ∷ l) m h g = (h.0, both_ran l m h.1 g)

asked_ran : (i : In) (p : ℕ) → AllRan (asked_at i p)
unfolding asked_at
asked_ran i p = pick (eqb (at i.column_of p) unloaded)
  where
    pick : (t : Bool) → AllRan (cond t [] (asked_for i p 0 ∷ asked_for i p 1 ∷ []))
    pick true = tt
    pick false = (ran i p 0, (ran i p 1, tt))

pub all_ran : (i : In) → AllRan (asks i)
unfolding asks gather
all_ran i = over_keeps AllRan (λ p l. l ++ asked_at i p) 0 i.n [] (λ p l _ _ h. both_ran l (asked_at i p) h (asked_ran i p)) tt

-- one more, which isn't refused
one_more_lem : (t : Tally) (k : Kind) → (k ≡ kinds.Refused → ⊥) → (total_of (one_more t k) ≡ total_of t + 1) × ((one_more t k).refused ≡ t.refused)
one_more_lem t kinds.Direct h = (omega arith, refl)
one_more_lem t kinds.Zero h = (omega arith, refl)
one_more_lem t kinds.Near h = (omega arith, refl)
one_more_lem t kinds.Converged h = (omega arith, refl)
one_more_lem t kinds.Curvature h = (omega arith, refl)
one_more_lem t kinds.Limit h = (omega arith, refl)
one_more_lem t kinds.Refused h = absurd (h refl)

-- below the cap each of them is counted, and none as refused
pub counted : (c : ℕ) (t : Tally) (l : List Asked) → AllRan l → total_of t + length l ≤ c
    → (total_of (after c t l) ≡ total_of t + length l) × ((after c t l).refused ≡ t.refused)
unfolding after
counted c t [] h g = (omega arith, refl)
counted c t (a ∷ l) h g =
    let k = h.0.0 in
    let step : counted_to c t a ≡ one_more t k = ap (counted_to c t) h.0.1.0 ∙ rw (lt-ltb (total_of t) c (omega arith)) in
    let m = one_more_lem t k h.0.1.1 in
    let q = counted c (one_more t k) l h.1 (omega (arith, m.0)) in
    let on : after c (counted_to c t a) l ≡ after c (one_more t k) l = ap (λ (v : Tally). after c v l) step in
    (omega (arith, ap total_of on, q.0, m.0), ap (λ (v : Tally). v.refused) on ∙ q.1 ∙ m.1)

-- ---- how many they are

-- parts' length, by the parts
length_gather : (g : ℕ → List Asked) (n : ℕ) → length (gather g 0 n) ≡ sum (λ p. length (g p)) n
unfolding up_to
length_gather g n =
    from (λ n. up_to g n ≡ sum (λ p. length (g p)) n) 0 (up_to_none g ∙ sym (sum_none _))
    (λ k _ h. omega (arith, up_to_more g k, sum_more (λ p. length (g p)) k)) n (omega arith)

twice : (f : ℕ → ℕ) (n : ℕ) → sum (λ p. f p + f p) n ≡ 2 * sum f n
twice f n = omega (arith, sum_plus f f n)

ones : (n : ℕ) → sum (λ c. 1) n ≡ n
unfolding sum
ones zero = refl
ones (suc n) = omega (arith, ones n)

module _ (n : ℕ) (pinned : List ℕ) (count : ℕ) (table : List ℕ) (w : Numbered n pinned count table) where
  -- how many of the numbers below the count a particle has
  abbrev had : ℕ → ℕ
  had p = sum (λ c. bit (eqb (at table p) c)) count

  -- each number is one particle's
  all_had : sum had n ≡ count
  all_had =
      sum_swap (λ p c. bit (eqb (at table p) c)) n count
      ∙ sum_same (λ c. sum (λ p. bit (eqb (at table p) c)) n) (λ c. 1) count
      (λ c l. let q = w.each c l in
      one_passes (λ p. eqb (at table p) c) n q.0 q.1.0 (eq-eqb _ _ q.1.1)
      (λ p g e. w.once q.0 p q.1.0 g (λ u. omega (arith, w.few, q.1.1)) (q.1.1 ∙ sym (eqb-true _ _ e))))
      ∙ ones count

pub two_each : (i : In) → Numbered i.n i.pinned i.loaded i.column_of → length (asks i) ≡ 2 * i.loaded
unfolding asks asked_at
two_each i w =
    length_gather (asked_at i) i.n ∙ sum_same (λ p. length (asked_at i p)) (λ p. h p + h p) i.n (λ p l. at_one p l) ∙ twice h i.n
    ∙ ap (λ (m : ℕ). 2 * m) (all_had i.n i.pinned i.loaded i.column_of w)
  where
    h : ℕ → ℕ
    h p = had i.n i.pinned i.loaded i.column_of w p

    at_one : (p : ℕ) → p < i.n → length (asked_at i p) ≡ h p + h p
    at_one p l =
        let c = at i.column_of p in
        ⊎_elim (λ (e : c ≡ unloaded). rw (eq-eqb _ _ e, none_of c i.loaded (omega (arith, w.few))))
        (λ (e : c ≡ unloaded → ⊥). rw (ne_eqb _ _ e, one_of c i.loaded (w.inside p l e))) (same_or c unloaded)

-- the six counts of the call's own record
pub own_sum : (i : In) → Numbered i.n i.pinned i.loaded i.column_of → sum_of (Ok (ended_of (after tally fresh (asks i)))) ≡ 2 * i.loaded
own_sum i w =
    let q = counted tally fresh (asks i) (all_ran i) (omega (arith, two_each i w, w.few)) in
    omega (arith, q.0, q.1, two_each i w)
