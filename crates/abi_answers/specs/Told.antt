-- HOW A SOLVE ENDED, over the C ABI (RULES.md § 8): the outcome's number, its count and its floats, in four lent places.
use Rattle.std.specs.Prelude.{◌≡◌, refl, [], ◌∷◌, Result, Ok, Err}
use Rattle.law.specs.declared.refusal.Refusal.{Refusal}
use Rattle.law.specs.Refusal.{Verdict}
use Rattle.law.specs.Said.{refusal_of}
use Rattle.gradient_definition.specs.declared.Outcome.{Outcome}
use Rattle.gradient_definition.specs.Solve.{number_of, count_of, values_of}
use Rattle.gradient_doors.specs.Said.{updated_said, solved_said}
use Rattle.abi_answers.specs.declared.ended.Places.{Places}
use Rattle.abi_answers.specs.Telling.{ending, ending_by}
use Rattle.abi_answers.specs.Numbers.{answered}

pub updated_number : (a : Verdict) → answered a ≡ refusal_of (updated_said a)
updated_number (Ok _) = refl
updated_number (Err k) = refl

pub solved_number : (a : Result Outcome Refusal) → answered a ≡ refusal_of (solved_said a)
solved_number (Ok o) = refl
solved_number (Err k) = refl

-- the places of an iteration's outcome, whichever call ran it
abbrev pub told_of : Outcome → Places
told_of o = ending (number_of o) (count_of o ∷ []) (values_of o)

-- what the places hold after the answer, from what they held
abbrev pub places_of : Result Outcome Refusal → Places → Places
places_of a old = ending_by (solved_said a) old
