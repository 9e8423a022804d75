use Rattle.std.specs.Prelude.{ℕ, ◌≤◌, ◌≡◌, List, length, take}
use Rattle.std.proofs.Common.{sym, length-take-le}

-- n items stand at the list's front. The second part follows from the first; the proof that Rattle makes of `&list[..n]` asks for both.
abbrev pub Front : {A : Type 0} → ℕ → List A → Type 0
Front n list = (n ≤ length list) × (n ≡ length (take n list))

pub front : {A : Type 0} (n : ℕ) (list : List A) → n ≤ length list → Front n list
front n list h = (h, sym (length-take-le n list h))
