-- WHAT A LOOP COMPUTES: the step f applied at a, then at a + 1, up to and without b. The invariant of a loop is 'the state is `over f a k` of the
-- state before it'; its three facts are `over_none`, `over_turn` and `over_done`.
use Rattle.std.specs.Prelude.{ℕ, zero, suc, ◌+◌, ◌-◌}

-- n turns, from a
unfoldable pub fold : {S : Type 0} → (ℕ → S → S) → ℕ → ℕ → S → S
fold f a zero s = s
fold f a (suc n) s = f (a + n) (fold f a n s)

-- for k in a..b
unfoldable pub over : {S : Type 0} → (ℕ → S → S) → ℕ → ℕ → S → S
over f a b s = fold f a (b - a) s
