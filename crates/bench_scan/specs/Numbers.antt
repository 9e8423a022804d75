-- THE NUMBERS OF A TEXT: those that its bytes stand for, between spaces and newlines.
use Rattle.std.specs.Prelude.{ℕ, ◌≤◌, ◌≡◌, Bool, true, cond, ◌&&◌, ◌||◌, List, [], ◌∷◌, map, leb, eqb}
use Rattle.std.proofs.Common.{leb-true}
use Rattle.law.specs.Decimal.{value}
use Rattle.law.specs.Truth.{both}

-- a space or a newline
unfoldable pub is_gap : ℕ → Bool
is_gap b = eqb b 32 || eqb b 10

unfoldable pub is_digit : ℕ → Bool
is_digit b = leb 48 b && leb b 57

unfoldable pub allowed : ℕ → Bool
allowed b = is_gap b || is_digit b

-- a byte put before the first piece
unfoldable pub before : ℕ → List (List ℕ) → List (List ℕ)
before b [] = (b ∷ []) ∷ []
before b (w ∷ ws) = (b ∷ w) ∷ ws

-- what stands before, between and after the separators, empty pieces too
unfoldable pub pieces : List ℕ → List (List ℕ)
pieces [] = [] ∷ []
pieces (b ∷ s) = cond (is_gap b) ([] ∷ pieces s) (before b (pieces s))

-- those that are not empty
unfoldable pub filled : List (List ℕ) → List (List ℕ)
filled [] = []
filled ([] ∷ ws) = filled ws
filled ((b ∷ w) ∷ ws) = (b ∷ w) ∷ filled ws

-- the numbers of a text, in order
unfoldable pub numbers : List ℕ → List ℕ
numbers s = map value (filled (pieces s))

-- each at most
abbrev pub largest : ℕ
largest = 4294967295

unfoldable pub small : ℕ → Bool
small v = leb v largest

pub digit_at : (b : ℕ) → is_digit b ≡ true → (48 ≤ b) × (b ≤ 57)
unfolding is_digit
digit_at b h = let p = both (leb 48 b) (leb b 57) h in (leb-true _ _ p.0, leb-true _ _ p.1)
