-- WHAT A CALL IS COUNTED AS: a step solve by its route and outcome, a response by the step solve that it
-- asked for. A refused call is one refused; a response with no entry left asks for nothing.
use Rattle.std.specs.Prelude.{Result, Ok, Err, None, Some}
use Rattle.law.specs.declared.refusal.Refusal.{Refusal}
use Rattle.step_tally.specs.declared.Kind.{Kind}
use Rattle.step_tally.specs.declared.Kind.TheVariants as kinds
use Rattle.step_tally.specs.declared.Tally.{Tally}
use Rattle.step_tally.specs.Count.{Asked, counted_of}
use Rattle.gradient_definition.specs.declared.Outcome.{Outcome}
use Rattle.gradient_definition.specs.declared.Outcome.TheVariants.{Zero, Near, Converged, Curvature, Limit}
use Rattle.step_solve.specs.declared.Stepped.{Stepped}
use Rattle.step_solve.specs.declared.Stepped.TheVariants as steps
use Rattle.step_solve.specs.Stepping as S
use Rattle.step_response.specs.declared.Responded.{Responded}
use Rattle.step_response.specs.declared.Responded.TheVariants as answers
use Rattle.step_response.specs.Responding as R

abbrev pub kind_of : Outcome → Kind
kind_of (Zero count) = kinds.Zero
kind_of (Near count residual) = kinds.Near
kind_of (Converged count residual) = kinds.Converged
kind_of (Curvature count residual denominator) = kinds.Curvature
kind_of (Limit count residual) = kinds.Limit

abbrev pub asked_of : Result Stepped Refusal → Asked
asked_of (Err k) = Some kinds.Refused
asked_of (Ok steps.Direct) = Some kinds.Direct
asked_of (Ok (steps.Iterated o)) = Some (kind_of o)

abbrev pub asked_by : Result Responded Refusal → Asked
asked_by (Err k) = Some kinds.Refused
asked_by (Ok answers.Nothing) = None
asked_by (Ok (answers.Direct gain)) = Some kinds.Direct
asked_by (Ok (answers.Iterated gain o)) = Some (kind_of o)

-- the lent record after a step solve, and after a response
abbrev pub after_step : Tally → S.Out → Tally
after_step t o = counted_of t (asked_of o.answer)

abbrev pub after_response : Tally → R.Out → Tally
after_response t o = counted_of t (asked_by o.answer)
