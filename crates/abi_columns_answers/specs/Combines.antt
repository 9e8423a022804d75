-- A COMBINATION OVER THE C ABI: its gain, +0.0 where it carries none, and which case it is. A refusal leaves both places.
use Rattle.std.specs.Prelude.{ℕ, ◌≡◌, refl, get_or, Float, Result, Ok, Err}
use Rattle.law.specs.declared.refusal.Refusal.{Refusal}
use Rattle.law.specs.Said.{Said, refused, carries, refusal_of}
use Rattle.plane.specs.Plane.{zero32}
use Rattle.columns_combine.specs.Said.{combined_said}
use Rattle.columns_combine.specs.declared.Combined.{Combined}
use Rattle.columns_combine.specs.declared.Combined.TheVariants.{NotLoaded, Nothing, Gain}
use Rattle.abi_answers.specs.Numbers.{answered}
use Rattle.abi_answers.specs.Telling.{how_by}
use Rattle.abi_columns_answers.specs.declared.combined.Gained.{Gained}

pub combined_number : (a : Result Combined Refusal) → answered a ≡ refusal_of (combined_said a)
combined_number (Err k) = refl
combined_number (Ok NotLoaded) = refl
combined_number (Ok Nothing) = refl
combined_number (Ok (Gain gain)) = refl

abbrev pub gain_by : Said → Float → Float
gain_by (refused k) old = old
gain_by (carries how counts values) old = get_or values 0 zero32

abbrev pub gained : Float → ℕ → Gained
gained gain how = record { gain = gain; how = how }

-- what the places hold after the answer, from what they held
abbrev pub gained_of : Result Combined Refusal → Gained → Gained
gained_of a old = gained (gain_by (combined_said a) old.gain) (how_by (combined_said a) old.how)

-- both are equal
pub same_gained : (gain gain' : Float) (how how' : ℕ) → gain ≡ gain' → how ≡ how' → gained gain how ≡ gained gain' how'
same_gained gain gain' how how' g h = rw (g, h)
