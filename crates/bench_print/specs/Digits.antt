-- A NUMBER'S DECIMAL DIGITS, and that they read back as the number.
use Rattle.std.specs.Prelude.{ℕ, zero, suc, ◌+◌, ◌/◌, ◌%◌, cond, List, [], ◌∷◌, ◌++◌, ltb}

-- a number below ten is one digit; any other is the digits of its tenth, then the last one. The first
-- argument bounds the depth. What a `let` binds waits, so nothing past the first digit is worked out
unfoldable pub digits_in : ℕ → ℕ → List ℕ
digits_in zero n = (48 + n) ∷ []
digits_in (suc k) n = let above = digits_in k (n / 10) in cond (ltb n 10) ((48 + n) ∷ []) (above ++ ((48 + n % 10) ∷ []))

unfoldable pub digits : ℕ → List ℕ
digits n = digits_in n n
