-- THE THEOREMS: there are such sequences; the definition's run is their trace and its solve the finish of it, both ways; and so is what the public call
-- leaves, by its promise alone. Assumes nothing.
use mathlib.Core.Path.{◌≡◌, refl, ap}
use mathlib.Core.Logic.{⊎_elim}
use Rattle.std.specs.Prelude.{Result, Ok, Err}
use Rattle.law.specs.declared.refusal.Refusal.{Refusal}
use Rattle.law.specs.Promise.{IsWork}
use Rattle.law.proofs.Promise.{work_or_refusal}
use Rattle.gradient_definition.specs.declared.Outcome.{Outcome}
use Rattle.gradient_definition.specs.Solve.{run}
use Rattle.gradient_doors.specs.Solving.{In, Out, solve_for, work, door}
use Rattle.gradient_textbook.specs.Trace.{norm, held, Trace, RunIsTrace, SolveIsTrace}
use Rattle.gradient_textbook.specs.Door.{MethodOf, Leaves, CallIsTrace}
use Rattle.gradient_textbook.proofs.Run.{run_is, one_trace}
use Rattle.gradient_textbook.proofs.Solve.{solve_is, one_solve}
pub use Rattle.gradient_textbook.proofs.Exists.{method}

pub run_is_trace : RunIsTrace
run_is_trace n A P b start m threshold limit e =
    let end = run n A P threshold limit 0 (norm m 0) (held m 0) in
    let ends : Trace m threshold limit end = run_is m threshold limit in
    (λ t. one_trace m threshold limit e end t ends, λ q. rw q ends)

pub solve_is_trace : SolveIsTrace
solve_is_trace n A P b start m tolerance limit e = (one_solve m tolerance limit e, λ q. rw q (solve_is m tolerance limit))

-- ---- the call

apart : (k : Refusal) (how : Outcome) (r : Result Outcome Refusal) → r ≡ Err k → r ≡ Ok how → ⊥
apart k how r p q = cc

same_outcome : (how other : Outcome) (r : Result Outcome Refusal) → r ≡ Ok how → r ≡ Ok other → how ≡ other
same_outcome how other r p q = cc

module _ (i : In) (m : MethodOf i) (o : Out) (how : Outcome) (answered : o.answer ≡ Ok how) where
  of_work : IsWork door i o → Leaves i m o how
  unfolding work solve_for
  of_work w =
      let same : (solve_for i).how ≡ how = same_outcome _ how o.answer (ap (λ (a : Out). a.answer) w.1) answered in
      rw w.1 record {
        x = (solve_for i).x;
        solve = rw (← same) (solve_is m i.tolerance i.max_iterations);
        left = refl;
        said = rw same;
      }

pub call_is_trace : CallIsTrace
call_is_trace i m o h how answered =
    ⊎_elim (of_work i m o how answered) (λ r. absurd (apart r.0 how o.answer (ap (λ (a : Out). a.answer) r.1.1.1) answered))
    (work_or_refusal door i o h)
