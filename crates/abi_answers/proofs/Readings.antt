-- What the lent places hold after each kind of answer, computed from what it says, whatever they held. Assumes nothing.
use Prim.Native.Nat.{ℕ}
use mathlib.Core.Path.{◌≡◌, refl}
use lib.Ieee.{Float}
use Rattle.plane.specs.Plane.{zero32}
use Rattle.std.specs.Prelude.{Ok, Err}
use Rattle.law.specs.declared.refusal.Refusal.{Refusal}
use Rattle.gradient_definition.specs.declared.Outcome.TheVariants.{Zero, Near, Converged, Curvature, Limit}
use Rattle.abi_answers.specs.declared.ended.Places.{Places}
use Rattle.abi_answers.specs.Telling.{Factor, factor, places}
use Rattle.abi_answers.specs.Numbers.{found_slot}
use Rattle.abi_answers.specs.Direct as direct
use Rattle.abi_answers.specs.Told as told

record Readings : Type 0 where
  slot : (slot old : ℕ) → found_slot (Ok slot) old ≡ slot
  no_slot : (k : Refusal) (old : ℕ) → found_slot (Err k) old ≡ old
  -- a factor's places: only a failure writes row and pivot
  whole : (old : Factor) → direct.places_of (Ok (Ok tt)) old ≡ factor 0 old.row old.pivot
  failed : (row : ℕ) (pivot : Float) (old : Factor) → direct.places_of (Ok (Err (record { row = row; pivot = pivot }))) old ≡ factor 1 row pivot
  no_factor : (k : Refusal) (old : Factor) → direct.places_of (Err k) old ≡ old
  -- an ending's places
  zero : (count : ℕ) (old : Places) → told.places_of (Ok (Zero count)) old ≡ places 1 count zero32 zero32
  near : (count : ℕ) (squared : Float) (old : Places) → told.places_of (Ok (Near count squared)) old ≡ places 2 count squared zero32
  converged : (count : ℕ) (squared : Float) (old : Places) → told.places_of (Ok (Converged count squared)) old ≡ places 3 count squared zero32
  curvature : (count : ℕ) (squared den : Float) (old : Places) → told.places_of (Ok (Curvature count squared den)) old ≡ places 4 count squared den
  limit : (count : ℕ) (squared : Float) (old : Places) → told.places_of (Ok (Limit count squared)) old ≡ places 5 count squared zero32
  no_ending : (k : Refusal) (old : Places) → told.places_of (Err k) old ≡ old

readings : Readings
readings = record {
  slot = λ slot old. refl;
  no_slot = λ k old. refl;
  whole = λ old. refl;
  failed = λ row pivot old. refl;
  no_factor = λ k old. refl;
  zero = λ count old. refl;
  near = λ count squared old. refl;
  converged = λ count squared old. refl;
  curvature = λ count squared den old. refl;
  limit = λ count squared old. refl;
  no_ending = λ k old. refl;
}
