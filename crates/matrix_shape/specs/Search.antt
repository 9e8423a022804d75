-- THE SEARCH BY HALVES, on any columns: of the slots a..b one is left, and it is the answer if it has the column. What is found has the column
-- (`search_tells`), whatever stands in the others; where the columns rise strictly, the answer is the slot that has the column (`search_finds`).
use Rattle.std.specs.Prelude.{ℕ, ◌+◌, ◌-◌, ◌≤◌, ◌<◌, ◌≡◌, cond, ltb, eqb}
use Rattle.law.specs.Limit.{absent}
use Rattle.matrix_shape.specs.Halving.{halved}

-- the one of `size` slots from low on that is left: as many steps as slots are enough
unfoldable pub kept : (ℕ → ℕ) → ℕ → ℕ → ℕ → ℕ
kept c col low size = halved c col size low size

-- the answer: that one, if it has the column
unfoldable pub search_of : (ℕ → ℕ) → ℕ → ℕ → ℕ → ℕ
search_of c a b col = cond (ltb a b) (cond (eqb (c (kept c col a (b - a))) col) (kept c col a (b - a)) absent) absent

-- ---- the search as the code has it: of the slots a..b, those `size` from low on are still to be searched

pub record Searched (c : ℕ → ℕ) (a b col low size : ℕ) : Type 0 where
  pub some : 0 < size
  pub last : low + size ≤ b
  pub same : kept c col low size ≡ kept c col a (b - a)
