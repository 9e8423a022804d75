-- WHAT A RESPONSE SAYS: what its step solve says, 6 where none was asked for; its gain before the outcome's floats.
use Rattle.std.specs.Prelude.{[], ◌∷◌, Result, Ok, Err}
use Rattle.law.specs.Number.{number}
use Rattle.law.specs.declared.refusal.Refusal.{Refusal}
use Rattle.law.specs.Said.{Said, refused, carries}
use Rattle.plane.specs.Plane.{zero32}
use Rattle.gradient_definition.specs.Solve.{number_of, count_of, values_of}
use Rattle.step_response.specs.declared.Responded.{Responded}
use Rattle.step_response.specs.declared.Responded.TheVariants as responded

abbrev pub responded_said : Result Responded Refusal → Said
responded_said (Err k) = refused (number k)
responded_said (Ok responded.Nothing) = carries 6 [] (zero32 ∷ [])
responded_said (Ok (responded.Direct gain)) = carries 0 [] (gain ∷ [])
responded_said (Ok (responded.Iterated gain o)) = carries (number_of o) (count_of o ∷ []) (gain ∷ values_of o)
