-- ONE OUTCOME of the public call, by the contract that its own theorem cites.
use Prim.Native.Nat.{ℕ}
use Rattle.std.specs.Prelude.{Ok, Err}
use mathlib.Core.Path.{◌≡◌, refl}
use mathlib.Core.List.{List}
use Rattle.law.specs.Promise.{by}
use Rattle.law.specs.Refusal.{Verdict}
use Rattle.law.specs.One.{OneOutcome, past}
use Rattle.law.proofs.One.{plainly, of_parts}
use Rattle.bench_text.specs.Nine.{verdict_by, outcome_by}
use Rattle.bench_answer.specs.Answering.{Out, left, refusals, work, refuse, answering, given_by}
use Rattle.bench_desk.specs.contracts.answer as answer

-- what it comes to is said of its answer, for the work as for each refusal
so_said : (text out : List ℕ) → let o = outcome_by answering text (given_by text out) in left o.answer o.out ≡ o
unfolding outcome_by work
so_said text out = go (verdict_by text (refusals (given_by text out)))
  where
    go : (v : Verdict) → let o = by v (work (given_by text out)) (λ j. refuse j (given_by text out)) in left o.answer o.out ≡ o
    go (Ok tt) = refl
    go (Err k) = refl

pub one_answer : OneOutcome answer.ended (λ M 𝓤. answer.spec)
one_answer = plainly answer.ended _ (λ κs a p. of_parts _ _ (λ (o : Out). (o.answer, past 1 (o.out, tt))) (so_said _ _) (λ w. refl))
