-- Zeros over the front of a list of blocks are that many blocks of zero.
use Rattle.std.specs.Prelude.{ℕ, zero, suc, ◌+◌, ◌*◌, ◌≤◌, ◌<◌, List, ◌++◌, ◌≡◌, refl, length, get_or, drop, take, replicate, Float}
use Rattle.std.proofs.Common.{arith, ◌∙◌, length-append, length-drop, length-take-le}
use Rattle.std.proofs.Math.ListN.{get_or-append}
use Rattle.std.proofs.lemmas.List.{length-replicate, get_or-replicate}
use Rattle.std.proofs.lemmas.Slice.{drop-append-drop}
use Rattle.std.specs.Float.{nan}
use Rattle.law.specs.Mix.{mix}
use Rattle.law.proofs.Mix.{mix_of}
use Rattle.plane.specs.Plane.{zero32}
use Rattle.plane.specs.Lent.{flat}
use Rattle.matrix_values.specs.Blocks.{zero_block}

number : (i : ℕ) → i < 4 → zero32 ≡ get_or (flat zero_block) i nan
number zero h = refl
number (suc zero) h = refl
number (suc (suc zero)) h = refl
number (suc (suc (suc zero))) h = refl
number (suc (suc (suc (suc i)))) h = absurd (omega arith)

pub zeros : (m : ℕ) (l : List Float) → 4 * m ≤ length l → replicate (length (take (4 * m) l)) zero32 ++ drop (4 * m) l ≡ mix 4 m (λ k. flat zero_block) l
zeros m l room =
    let long : length (replicate (4 * m) zero32) ≡ 4 * m = length-replicate (4 * m) zero32 in
    rw (length-take-le (4 * m) l room) (mix_of 4 nan (λ k. flat zero_block) (λ j. refl) m l (replicate (4 * m) zero32 ++ drop (4 * m) l)
    (rw (length-append, length-drop) (omega arith))
    (λ j h i g. get_or-append (replicate (4 * m) zero32) (drop (4 * m) l) nan (4 * j + i) (omega arith)
    ∙ get_or-replicate (4 * m) (4 * j + i) zero32 nan (omega arith) ∙ number i g) (drop-append-drop (4 * m) l (replicate (4 * m) zero32) (4 * m) (omega arith) long))
