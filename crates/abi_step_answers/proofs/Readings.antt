-- What the lent places hold after each kind of answer of the step's calls, computed from what it says, whatever they held. Assumes nothing.
use Prim.Native.Nat.{ℕ}
use mathlib.Core.Path.{◌≡◌, refl}
use lib.Ieee.{Float}
use Rattle.std.specs.Prelude.{Ok, Err}
use Rattle.law.specs.declared.refusal.Refusal.{Refusal}
use Rattle.plane.specs.Plane.{zero32}
use Rattle.gradient_definition.specs.declared.Outcome.{Outcome}
use Rattle.step_solve.specs.declared.Marked.TheVariants as marked
use Rattle.step_solve.specs.declared.Stepped.TheVariants as stepped
use Rattle.step_response.specs.declared.Responded.TheVariants as responded
use Rattle.abi_answers.specs.declared.ended.Places.{Places}
use Rattle.abi_answers.specs.declared.factored.Factor.{Factor}
use Rattle.abi_answers.specs.Telling.{factor, places}
use Rattle.abi_answers.specs.Told.{told_of}
use Rattle.abi_step_answers.specs.Marks as marks
use Rattle.abi_step_answers.specs.Steps as steps
use Rattle.abi_step_answers.specs.declared.responded.Gained.{Gained}
use Rattle.abi_step_answers.specs.Responses.{gained, gained_of}

record Readings : Type 0 where
  -- the factor's places: only a failure writes row and pivot
  whole : (old : Factor) → marks.places_of (Ok marked.Direct) old ≡ factor 0 old.row old.pivot
  failed : (row : ℕ) (pivot : Float) (old : Factor) → marks.places_of (Ok (marked.Failed row pivot)) old ≡ factor 1 row pivot
  iterative : (old : Factor) → marks.places_of (Ok marked.Iterative) old ≡ factor 2 old.row old.pivot
  no_mark : (k : Refusal) (old : Factor) → marks.places_of (Err k) old ≡ old
  -- a step solve's: an iteration is told as the conjugate gradient's call tells it
  direct : (old : Places) → steps.places_of (Ok stepped.Direct) old ≡ places 0 0 zero32 zero32
  iterated : (o : Outcome) (old : Places) → steps.places_of (Ok (stepped.Iterated o)) old ≡ told_of o
  no_step : (k : Refusal) (old : Places) → steps.places_of (Err k) old ≡ old
  -- a response's: the gain, and the ending
  nothing : (old : Gained) → gained_of (Ok responded.Nothing) old ≡ gained zero32 (places 6 0 zero32 zero32)
  by_factor : (g : Float) (old : Gained) → gained_of (Ok (responded.Direct g)) old ≡ gained g (places 0 0 zero32 zero32)
  by_turns : (g : Float) (o : Outcome) (old : Gained) → gained_of (Ok (responded.Iterated g o)) old ≡ gained g (told_of o)
  no_response : (k : Refusal) (old : Gained) → gained_of (Err k) old ≡ old

readings : Readings
readings = record {
  whole = λ old. refl;
  failed = λ row pivot old. refl;
  iterative = λ old. refl;
  no_mark = λ k old. refl;
  direct = λ old. refl;
  iterated = λ o old. refl;
  no_step = λ k old. refl;
  nothing = λ old. refl;
  by_factor = λ g old. refl;
  by_turns = λ g o old. refl;
  no_response = λ k old. refl;
}
