-- ONE OUTCOME of each public call, by the contract that its own theorem cites.
use mathlib.Core.Path.{◌≡◌, refl}
use mathlib.Core.Bool.{Bool, true, false, cond, ◌&&◌}
use Rattle.law.specs.One.{OneOutcome, past}
use Rattle.law.proofs.One.{plainly, of_door, of_counted}
use Rattle.step_solve.specs.Marking as marking
use Rattle.step_solve.specs.Stepping as stepping
use Rattle.step_response.specs.Responding as responding
use Rattle.step_counts.specs.Counting.{after_step, after_response}
use Rattle.step_doors.specs.contracts.factorize_step_matrix as factorize-step-matrix
use Rattle.step_doors.specs.contracts.solve_step as solve-step
use Rattle.step_doors.specs.contracts.response_into as response-into

either : {O : Type 0} (Q : O → Type 0) (b : Bool) (x y : O) → Q x → Q y → Q (cond b x y)
either Q true x y p q = p
either Q false x y p q = q

-- what `left` makes of such a value's own answer and lists is the value: so of what each door's work leaves
abbrev Marked : marking.Out → Type 0
Marked o = marking.left o.answer o.values o.preconditioner ≡ o

pub marked : (i : marking.In) → Marked (marking.work i)
unfolding marking.work
marked i = either Marked (marking.dense i) _ _ refl refl

abbrev Stepped : stepping.Out → Type 0
Stepped o = stepping.left o.answer o.x o.scratch o.residual o.direction o.a_direction o.z ≡ o

pub stepped : (i : stepping.In) → Stepped (stepping.work i)
unfolding stepping.work stepping.directly stepping.iteratively
stepped i = either Stepped (stepping.dense i && i.factored) _ _ refl refl

abbrev Responded : responding.Out → Type 0
Responded o = responding.left o.answer o.out o.rhs o.scratch o.residual o.direction o.a_direction o.z ≡ o

pub responded : (i : responding.In) → Responded (responding.work i)
unfolding responding.work responding.answered responding.idle
responded i = either Responded (responding.asks i) _ _ refl refl

pub one_factorize_step_matrix : OneOutcome factorize-step-matrix.ended (λ M 𝓤. factorize-step-matrix.spec)
one_factorize_step_matrix = plainly factorize-step-matrix.ended _ (λ κs a p.
    of_door marking.door _ _ (λ o. (o.answer, past 4 (o.values, (o.preconditioner, tt)))) (marked _) (λ k. refl) (λ w. refl))

pub one_solve_step : OneOutcome solve-step.ended (λ M 𝓤. solve-step.spec)
one_solve_step = plainly solve-step.ended _ (λ κs a p.
    of_counted stepping.door _ _ after_step _ _
    (λ o t. (o.answer, past 2 (o.x, (o.scratch, (o.residual, (o.direction, (o.a_direction, (o.z, (t, tt))))))))) (λ u. stepped _)
    (λ k u. refl) (λ o u. refl) (λ w. refl))

pub one_response_into : OneOutcome response-into.ended (λ M 𝓤. response-into.spec)
one_response_into = plainly response-into.ended _ (λ κs a p.
    of_counted responding.door _ _ after_response _ _
    (λ o t. (o.answer, past 3 (o.out, (o.rhs, (o.scratch, (o.residual, (o.direction, (o.a_direction, (o.z, (t, tt)))))))))) (λ u. responded _)
    (λ k u. refl) (λ o u. refl) (λ w. refl))
