-- What the lent places hold after each kind of answer of the column calls, computed from what it says, whatever they held. Assumes nothing.
use Prim.Native.Nat.{ℕ}
use mathlib.Core.Path.{◌≡◌, refl}
use mathlib.Core.List.{[], ◌∷◌}
use lib.Ieee.{Float}
use Rattle.plane.specs.Plane.{pair, zero32}
use Rattle.step_tally.specs.declared.Tally.{Tally}
use Rattle.std.specs.Prelude.{Result, Ok, Err, None, Some}
use Rattle.law.specs.declared.refusal.Refusal.{Refusal}
use Rattle.columns_make.specs.declared.Ended.{Ended}
use Rattle.columns_combine.specs.declared.Combined.TheVariants as combined
use Rattle.step_tally.specs.Count.{counts_of}
use Rattle.abi_columns_answers.specs.Loads.{loaded_after}
use Rattle.abi_columns_answers.specs.Computes.{Reckoned, Numbers, numbers, numbers_of}
use Rattle.abi_columns_answers.specs.Combines.{gained, gained_of}
use Rattle.abi_columns_answers.specs.declared.combined.Gained.{Gained}
use Rattle.abi_columns_answers.specs.Blocks.{shown, shown_of}
use Rattle.abi_columns_answers.specs.declared.block.Shown.{Shown}

abbrev with_tally : Result Ended Refusal → Tally → Reckoned
with_tally a t = record { answer = a; tally = t }

record Readings : Type 0 where
  count : (count old : ℕ) → loaded_after (Ok count) old ≡ count
  no_count : (k : Refusal) (old : ℕ) → loaded_after (Err k) old ≡ old
  -- the tally's counts are written either way
  ended : (direct zero near converged curvature limit : ℕ) (t : Tally) (old : Numbers)
      → numbers_of (with_tally (Ok (record { direct = direct; zero = zero; near = near; converged = converged; curvature = curvature; limit = limit })) t) old
      ≡ numbers (counts_of t) (direct ∷ zero ∷ near ∷ converged ∷ curvature ∷ limit ∷ [])
  not_made : (k : Refusal) (t : Tally) (old : Numbers) → numbers_of (with_tally (Err k) t) old ≡ numbers (counts_of t) old.ended
  -- a combination that is none has a gain of +0.0
  gain : (gain : Float) (old : Gained) → gained_of (Ok (combined.Gain gain)) old ≡ gained gain 0
  nothing : (old : Gained) → gained_of (Ok combined.Nothing) old ≡ gained zero32 6
  missing : (old : Gained) → gained_of (Ok combined.NotLoaded) old ≡ gained zero32 7
  no_gain : (k : Refusal) (old : Gained) → gained_of (Err k) old ≡ old
  -- and a block that is none is zero
  four : (c0x c0y c1x c1y : Float) (old : Shown) → shown_of (Ok (Some (pair (pair c0x c0y) (pair c1x c1y)))) old ≡ shown 0 (c0x ∷ c0y ∷ c1x ∷ c1y ∷ [])
  not_loaded : (old : Shown) → shown_of (Ok None) old ≡ shown 7 (zero32 ∷ zero32 ∷ zero32 ∷ zero32 ∷ [])
  no_block : (k : Refusal) (old : Shown) → shown_of (Err k) old ≡ old

readings : Readings
readings = record {
  count = λ count old. refl;
  no_count = λ k old. refl;
  ended = λ direct zero near converged curvature limit t old. refl;
  not_made = λ k t old. refl;
  gain = λ gain old. refl;
  nothing = λ old. refl;
  missing = λ old. refl;
  no_gain = λ k old. refl;
  four = λ c0x c0y c1x c1y old. refl;
  not_loaded = λ old. refl;
  no_block = λ k old. refl;
}
