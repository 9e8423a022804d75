-- WHAT A COMBINATION SAYS: 0 with the gain, 6 and a gain of +0.0 where no entry is left, as a response does, 7 where a particle isn't loaded.
use Rattle.std.specs.Prelude.{[], ◌∷◌, Result, Ok, Err}
use Rattle.law.specs.declared.refusal.Refusal.{Refusal}
use Rattle.law.specs.Number.{number}
use Rattle.law.specs.Said.{Said, refused, carries}
use Rattle.plane.specs.Plane.{zero32}
use Rattle.columns_combine.specs.declared.Combined.{Combined}
use Rattle.columns_combine.specs.declared.Combined.TheVariants as combined

abbrev pub combined_said : Result Combined Refusal → Said
combined_said (Err k) = refused (number k)
combined_said (Ok combined.NotLoaded) = carries 7 [] []
combined_said (Ok combined.Nothing) = carries 6 [] (zero32 ∷ [])
combined_said (Ok (combined.Gain gain)) = carries 0 [] (gain ∷ [])
