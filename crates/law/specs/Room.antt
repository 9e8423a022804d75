-- ROOM: for each lent buffer what the call needs and what it has, and the test of them all.
use Rattle.std.specs.Prelude.{ℕ, ◌≤◌, Bool, ◌&&◌, List, [], ◌∷◌, leb}

abbrev pub Room : Type 0
Room = List (ℕ × ℕ)

-- as the code tests it: a & b & c, from the left
unfoldable pub enough : Bool → Room → Bool
enough ok [] = ok
enough ok (p ∷ l) = enough (ok && leb p.0 p.1) l

-- each need is met, as a tuple of facts in the list's order
abbrev pub Enough : Room → Type 0
Enough [] = Unit {0}
Enough (p ∷ l) = (p.0 ≤ p.1) × Enough l
