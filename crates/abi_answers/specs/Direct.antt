-- THE DIRECT SOLVER'S ANSWERS AS NUMBERS. A factorization that fails is no refusal: its
-- number is 0, and lent places say that it failed, where, and by which pivot.
use Rattle.std.specs.Prelude.{◌≡◌, refl, Result, Ok, Err}
use Rattle.law.specs.declared.refusal.Refusal.{Refusal}
use Rattle.law.specs.Refusal.{Verdict}
use Rattle.law.specs.Said.{refusal_of}
use Rattle.factor_make.specs.Factored.{Factored}
use Rattle.factor_doors.specs.Said.{factored_said, solved_said}
use Rattle.abi_answers.specs.declared.factored.Factor.{Factor}
use Rattle.abi_answers.specs.Telling.{factor_by}
use Rattle.abi_answers.specs.Numbers.{answered}

pub factored_number : (a : Result Factored Refusal) → answered a ≡ refusal_of (factored_said a)
factored_number (Ok (Ok _)) = refl
factored_number (Ok (Err e)) = refl
factored_number (Err k) = refl

pub solved_number : (a : Verdict) → answered a ≡ refusal_of (solved_said a)
solved_number (Ok _) = refl
solved_number (Err k) = refl

-- what the three places hold after an answer, from what they held
abbrev pub places_of : Result Factored Refusal → Factor → Factor
places_of a old = factor_by (factored_said a) old
