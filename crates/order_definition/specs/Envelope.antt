-- THE ENVELOPE OF AN ORDER: a place's two rows start at the leftmost block that its
-- particle stores, and a row holds its columns from there to the diagonal.
use Rattle.std.specs.Prelude.{ℕ, zero, suc, ◌+◌, ◌-◌, ◌*◌, ◌/◌, cond, List, [], ◌∷◌, ◌++◌, ltb, eqb, get_or}
use Rattle.order_definition.specs.Order.{neighbours}

-- the place of w in the list
abbrev pub place_of : List ℕ → ℕ → ℕ
place_of [] w = zero
place_of (x ∷ l) w = let r = place_of l w in cond (eqb x w) zero (suc r)

abbrev pub lesser : ℕ → ℕ → ℕ
lesser a b = cond (ltb b a) b a

abbrev pub leftmost : List ℕ → ℕ → List ℕ → ℕ
leftmost o b [] = b
leftmost o b (c ∷ cs) = leftmost o (lesser b (place_of o c)) cs

-- the block column where the rows of place i start
unfoldable pub first_block : List ℕ → List ℕ → List ℕ → ℕ → ℕ
first_block starts cols o i = leftmost o i (neighbours starts cols (get_or o i 0))

-- a place has two rows, 2i and 2i+1: the column where a row starts
unfoldable pub first_col : List ℕ → List ℕ → List ℕ → ℕ → ℕ
first_col starts cols o r = 2 * first_block starts cols o (r / 2)

-- the first row starts of the envelope: row r holds its columns from the first to r
unfoldable pub row_starts : List ℕ → List ℕ → List ℕ → ℕ → List ℕ
row_starts starts cols o zero = 0 ∷ []
row_starts starts cols o (suc r) =
    let e = row_starts starts cols o r in
    e ++ ((get_or e r 0 + (r - first_col starts cols o r + 1)) ∷ [])
