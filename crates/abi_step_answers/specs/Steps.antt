-- HOW A STEP SOLVE ENDED, over the C ABI: by the factor, which carries nothing, or by an iteration, which is told as the conjugate gradient's call tells it.
use Rattle.std.specs.Prelude.{ℕ, ◌≡◌, refl, [], Result, Ok, Err}
use Rattle.law.specs.declared.refusal.Refusal.{Refusal}
use Rattle.law.specs.Said.{refusal_of}
use Rattle.step_solve.specs.Said.{stepped_said}
use Rattle.step_solve.specs.declared.Stepped.{Stepped}
use Rattle.step_solve.specs.declared.Stepped.TheVariants.{Direct, Iterated}
use Rattle.abi_answers.specs.declared.ended.Places.{Places}
use Rattle.abi_answers.specs.Numbers.{answered}
use Rattle.abi_answers.specs.Telling.{ending, ending_by}

pub stepped_number : (a : Result Stepped Refusal) → answered a ≡ refusal_of (stepped_said a)
stepped_number (Err k) = refl
stepped_number (Ok Direct) = refl
stepped_number (Ok (Iterated o)) = refl

-- an ending without a count and floats
abbrev pub bare_of : ℕ → Places
bare_of how = ending how [] []

-- what the places hold after the answer, from what they held
abbrev pub places_of : Result Stepped Refusal → Places → Places
places_of a old = ending_by (stepped_said a) old
