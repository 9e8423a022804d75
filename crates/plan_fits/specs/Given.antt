-- A PLAN AS A CALL IS HANDED IT: each list needs just the places that its content fills, and the last row start, as it stands, is the factor's length.
use Rattle.std.specs.Prelude.{ℕ, ◌+◌, ◌*◌, ◌≤◌, ◌≡◌, true, List, [], ◌∷◌, length}
use Rattle.std.proofs.Common.{arith}
use Rattle.law.specs.Limit.{particles}
use Rattle.law.specs.Room.{Room, enough}
use Rattle.law.proofs.Room.{enough_is}
use Rattle.matrix_shape.specs.Rows.{at}
use Rattle.plan_fits.specs.Lists.{Laid}

-- what each list needs, and what it has
unfoldable pub plan_room : ℕ → List ℕ → List ℕ → List ℕ → List ℕ → Room
plan_room n order inverse first starts = (n, length order) ∷ (n, length inverse) ∷ (2 * n, length first) ∷ (2 * n + 1, length starts) ∷ []

-- how long the factor is
unfoldable pub factor_length : ℕ → List ℕ → ℕ
factor_length n starts = at starts (2 * n)

-- what the test says, once it has passed
pub laid : (n : ℕ) (order inverse first starts : List ℕ) → n ≤ particles → enough true (plan_room n order inverse first starts) ≡ true
    → Laid n order inverse first starts
unfolding plan_room
laid n order inverse first starts l h =
    let e = enough_is true (plan_room n order inverse first starts) h in
    record { few = l; places = e.0; marks = e.1.0; firsts = e.1.1.0; begins = omega (arith, e.1.1.1.0) }
