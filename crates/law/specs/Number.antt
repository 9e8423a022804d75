-- THE REFUSAL NUMBERS (RULES.md § 3): what each refusal of src/refusal.rt is called in the rules, over the C interface and in a program's answer.
use Rattle.std.specs.Prelude.{ℕ}
use Rattle.law.specs.declared.refusal.Refusal.{Refusal}
use Rattle.law.specs.declared.refusal.Refusal.TheVariants.{TooManyParticles, TooManyEntries, ShortBuffer, OutOfRange, BadPattern, BadPlan, LongEnvelope, BadSettings, BadText}

abbrev pub number : Refusal → ℕ
number TooManyParticles = 1
number TooManyEntries = 2
number ShortBuffer = 3
number OutOfRange = 4
number BadPattern = 5
number BadPlan = 6
number LongEnvelope = 7
number BadSettings = 8
number BadText = 9
