-- A PARTICLE'S BLOCK OVER THE C ABI: which case it is, and its four numbers, +0.0 where it carries none. A refusal leaves all places.
use Rattle.std.specs.Prelude.{ℕ, ◌≡◌, refl, List, [], ◌∷◌, get_or, Float, Result, Ok, Err, Option, None, Some}
use Rattle.law.specs.declared.refusal.Refusal.{Refusal}
use Rattle.law.specs.Said.{Said, refused, carries, refusal_of}
use Rattle.plane.specs.Plane.{Block, zero32}
use Rattle.columns_block.specs.Said.{block_said}
use Rattle.abi_answers.specs.Numbers.{answered}
use Rattle.abi_answers.specs.Telling.{how_by}
use Rattle.abi_columns_answers.specs.declared.block.Shown.{Shown}

pub block_number : (a : Result (Option Block) Refusal) → answered a ≡ refusal_of (block_said a)
block_number (Err k) = refl
block_number (Ok None) = refl
block_number (Ok (Some m)) = refl

abbrev pub four_by : Said → List Float → List Float
four_by (refused k) old = old
four_by (carries how counts values) old = get_or values 0 zero32 ∷ get_or values 1 zero32 ∷ get_or values 2 zero32 ∷ get_or values 3 zero32 ∷ []

abbrev pub shown : ℕ → List Float → Shown
shown how block = record { how = how; block = block }

-- what the places hold after the answer, from what they held
abbrev pub shown_of : Result (Option Block) Refusal → Shown → Shown
shown_of a old = shown (how_by (block_said a) old.how) (four_by (block_said a) old.block)

-- both are equal
pub same_shown : (how how' : ℕ) (block block' : List Float) → how ≡ how' → block ≡ block' → shown how block ≡ shown how' block'
same_shown how how' block block' h b = rw (h, b)
