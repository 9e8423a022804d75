-- THE STEP'S FACTOR AS NUMBERS. A factor that fails is no refusal, and neither is a step that is to be
-- iterated: lent places say which it was, and where a failure was and by which pivot.
use Rattle.std.specs.Prelude.{◌≡◌, refl, Result, Ok, Err}
use Rattle.law.specs.declared.refusal.Refusal.{Refusal}
use Rattle.law.specs.Said.{refusal_of}
use Rattle.step_solve.specs.Said.{marked_said}
use Rattle.step_solve.specs.declared.Marked.{Marked}
use Rattle.step_solve.specs.declared.Marked.TheVariants.{Direct, Failed, Iterative}
use Rattle.abi_answers.specs.declared.factored.Factor.{Factor}
use Rattle.abi_answers.specs.Numbers.{answered}
use Rattle.abi_answers.specs.Telling.{factor_by}

pub marked_number : (a : Result Marked Refusal) → answered a ≡ refusal_of (marked_said a)
marked_number (Err k) = refl
marked_number (Ok Direct) = refl
marked_number (Ok (Failed row pivot)) = refl
marked_number (Ok Iterative) = refl

-- what the three places hold after an answer, from what they held
abbrev pub places_of : Result Marked Refusal → Factor → Factor
places_of a old = factor_by (marked_said a) old
