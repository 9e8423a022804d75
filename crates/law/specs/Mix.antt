-- A BUFFER WRITTEN FROM THE FRONT, w places in each turn: after k turns the first w * k places are the new parts and the rest
-- is still as it was. The new part may be worked out of what the buffer holds at that place (in-place loops: `turn_reads`) or
-- of anything else (filling). A buffer whose parts were written in any order is such a mix too (`mix_of`).
use Rattle.std.specs.Prelude.{ℕ, ◌+◌, ◌*◌, ◌<◌, ◌≡◌, List, ◌++◌, get_or, drop}
use Rattle.law.specs.Gather.{gather}

-- the first k parts, w long each, over the front of l
abbrev pub mix : {A : Type 0} → ℕ → ℕ → (ℕ → List A) → List A → List A
mix w k f l = gather f 0 k ++ drop (w * k) l

-- ---- a buffer written in any order, a part of w places in each store

-- part j of l is v
abbrev pub Holds : {A : Type 0} → ℕ → A → List A → ℕ → List A → Type 0
Holds w d l j v = (i : ℕ) → i < w → get_or l (w * j + i) d ≡ get_or v i d
