-- The number that decimal digits stand for, the first digit first; a digit is its character's code, from 48 on.
use Rattle.std.specs.Prelude.{ℕ, ◌+◌, ◌-◌, ◌*◌, ◌≡◌, refl, List, [], ◌∷◌, ◌++◌}

-- after digits that stand for v
unfoldable pub value_from : ℕ → List ℕ → ℕ
value_from v [] = v
value_from v (b ∷ w) = value_from (v * 10 + (b - 48)) w

unfoldable pub value : List ℕ → ℕ
value w = value_from 0 w

-- one digit more
pub value_more : (v : ℕ) (w : List ℕ) (d : ℕ) → value_from v (w ++ (d ∷ [])) ≡ value_from v w * 10 + (d - 48)
unfolding value_from
value_more v [] d = refl
value_more v (b ∷ w) d = value_more (v * 10 + (b - 48)) w d
