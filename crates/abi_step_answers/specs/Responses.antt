-- A RESPONSE OVER THE C ABI: its gain, which is the first float that it carries, and how its step
-- solve ended, by what stands behind the gain; 6 where none was asked for. A refusal leaves the places.
use Rattle.std.specs.Prelude.{◌≡◌, refl, drop, Float, Result, Ok, Err}
use Rattle.law.specs.declared.refusal.Refusal.{Refusal}
use Rattle.law.specs.Said.{Said, refused, carries, refusal_of}
use Rattle.step_response.specs.Said.{responded_said}
use Rattle.step_response.specs.declared.Responded.{Responded}
use Rattle.step_response.specs.declared.Responded.TheVariants.{Nothing, Direct, Iterated}
use Rattle.abi_answers.specs.declared.ended.Places.{Places}
use Rattle.abi_answers.specs.Numbers.{answered}
use Rattle.abi_answers.specs.Telling.{float_by, ending_by}
use Rattle.abi_step_answers.specs.declared.responded.Gained.{Gained}

pub responded_number : (a : Result Responded Refusal) → answered a ≡ refusal_of (responded_said a)
responded_number (Err k) = refl
responded_number (Ok Nothing) = refl
responded_number (Ok (Direct gain)) = refl
responded_number (Ok (Iterated gain o)) = refl

-- the same without its first float
abbrev pub behind_gain : Said → Said
behind_gain (refused k) = refused k
behind_gain (carries how counts values) = carries how counts (drop 1 values)

abbrev pub gained : Float → Places → Gained
gained g told = record { gain = g; told = told }

abbrev pub gained_by : Said → Gained → Gained
gained_by s old = gained (float_by s old.gain) (ending_by (behind_gain s) old.told)

-- what the places hold after the answer, from what they held
abbrev pub gained_of : Result Responded Refusal → Gained → Gained
gained_of a old = gained_by (responded_said a) old

-- both are equal
pub same_gained : (g g' : Float) (told told' : Places) → g ≡ g' → told ≡ told' → gained g told ≡ gained g' told'
same_gained g g' told told' e p = rw (e, p)
