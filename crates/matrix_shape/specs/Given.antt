-- A PATTERN AS A CALL IS HANDED IT: the block count is the last row offset as it stands, and each list needs just the places that its content fills.
use Rattle.std.specs.Prelude.{ℕ, ◌+◌, ◌*◌, ◌≤◌, ◌≡◌, Bool, List, [], ◌∷◌, length, Float}
use Rattle.std.proofs.Math.Bool.{true}
use Rattle.std.proofs.Common.{arith}
use Rattle.law.specs.Limit.{particles}
use Rattle.law.specs.Room.{Room, enough}
use Rattle.law.proofs.Room.{enough_is}
use Rattle.matrix_shape.specs.Formed.{well_formed, formed_is}
use Rattle.matrix_shape.specs.Rows.{at, Held, Pattern}

-- what each list needs, and what it has
unfoldable pub pattern_room : ℕ → List ℕ → List ℕ → List ℕ → Room
pattern_room n starts cols diagonal = (n + 1, length starts) ∷ (at starts n, length cols) ∷ (n, length diagonal) ∷ []

unfoldable pub blocks_room : ℕ → List ℕ → List Float → Room
blocks_room n starts blocks = (4 * at starts n, length blocks) ∷ []

unfoldable pub formed : ℕ → List ℕ → List ℕ → List ℕ → Bool
formed n starts cols diagonal = well_formed n (at starts n) (at starts) (at cols) (at diagonal)

module _ (n : ℕ) (starts cols diagonal : List ℕ) where
  -- what the tests say, once they have passed
  pub held : enough true (pattern_room n starts cols diagonal) ≡ true → Held n (at starts n) starts cols diagonal
  unfolding pattern_room
  held h = let e = enough_is true (pattern_room n starts cols diagonal) h in record { places = omega (arith, e.0); columns = e.1.0; marks = e.1.1.0 }

  pub pattern : n ≤ particles → enough true (pattern_room n starts cols diagonal) ≡ true → formed n starts cols diagonal ≡ true
      → Pattern n starts cols diagonal
  unfolding formed
  pattern l h f = record { few = l; held = held h; formed = formed_is n (at starts n) (at starts) (at cols) (at diagonal) f }
