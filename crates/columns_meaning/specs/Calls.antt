-- THE TALLY OVER ANY SEQUENCE OF CALLS, computing the columns included: `step_doors` has it for a step solve and a response. From a fresh record the
-- sum is the lesser of the cap and the number of step solves asked for, and each count is the number of its kind among the first so many.
use Rattle.std.specs.Prelude.{Ok}
use Rattle.std.specs.Prelude.{min, ◌*◌, ◌≡◌, List, [], ◌∷◌, ◌++◌, ◌⊎◌, length, take}
use Rattle.std.proofs.Common.{inl, inr}
use Rattle.law.specs.Limit.{tally}
use Rattle.law.specs.Refusal.{verdict}
use Rattle.law.specs.Promise.{Promise, by}
use Rattle.step_tally.specs.declared.Tally.{Tally}
use Rattle.step_tally.specs.declared.Kind.{Kind}
use Rattle.step_tally.specs.declared.Kind.TheVariants.{Refused}
use Rattle.step_tally.specs.Count.{Asked}
use Rattle.std.specs.Prelude.{Some}
use Rattle.step_tally.specs.Count.{total_of}
use Rattle.step_tally.specs.Runs.{fresh, count_of, solves, of_kind}
use Rattle.step_doors.specs.Calls as Step
use Rattle.columns_make.specs.Making.{In, Out, given, handed_system, handed_table, refusals, door}
use Rattle.columns_meaning.specs.Solution.{asks}

-- a call of `solve_step` or `response_into`, or of `compute_columns` with all that it is handed but the record
abbrev pub Call : Type 0
Call = Step.Call ⊎ In

-- the same call with this record lent
abbrev pub lending : In → Tally → In
lending i t = given (handed_system i) (handed_table i) i.columns i.rhs i.scratch i.residual i.direction i.a_direction i.z t

-- what it asks for: computing, refused, is one refused call; else each loaded particle's two solves
abbrev pub asked : Call → List Asked
asked (inl c) = Step.asks c ∷ []
asked (inr i) = by (verdict (refusals i)) (asks i) (λ k. Some Refused ∷ [])

unfoldable pub asks_of : List Call → List Asked
asks_of [] = []
asks_of (c ∷ l) = asked c ++ asks_of l

-- a call that keeps its promise turns the record t into u; and so do calls, one after the other
abbrev pub Made : Call → Tally → Tally → Type 0
Made (inl c) t u = Step.Made c t u
Made (inr i) t u = (o : Out) × (Promise door (lending i t) o × (u ≡ o.tally))

abbrev pub MadeAll : List Call → Tally → Tally → Type 0
MadeAll [] t u = u ≡ t
MadeAll (c ∷ l) t u = (v : Tally) × (Made c t v × MadeAll l v u)

-- an accepted computing asks for two solves for each loaded particle
abbrev pub AsksTwoEach : Type 0
AsksTwoEach = (i : In) → verdict (refusals i) ≡ Ok tt → length (solves (asked (inr i))) ≡ 2 * i.loaded

-- THE SUM, and EACH COUNT
abbrev pub SumOfCalls : Type 0
SumOfCalls = (l : List Call) (u : Tally) → MadeAll l fresh u → total_of u ≡ min tally (length (solves (asks_of l)))

abbrev pub CountOfCalls : Type 0
CountOfCalls = (l : List Call) (u : Tally) (j : Kind) → MadeAll l fresh u → count_of u j ≡ of_kind j (take tally (solves (asks_of l)))
