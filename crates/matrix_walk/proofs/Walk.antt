-- What follows of specs/Walk.antt: its theorems, apart from the definitions.
use Rattle.std.specs.Prelude.{ℕ, ◌+◌, ◌≤◌, ◌<◌, ◌≡◌, List, length, set}
use Rattle.std.proofs.Math.Path.{ap}
use Rattle.std.proofs.Common.{◌∙◌}
use Rattle.std.proofs.Math.Bool.{true}
use Rattle.std.proofs.Math.Logic.{⊎_elim}
use native.Mathlib.Omega.{arith}
use Rattle.law.specs.Truth.{below_or}
use Rattle.law.specs.Every.{every}
use Rattle.law.specs.Sum.{bit}
use Rattle.matrix_shape.specs.Formed.{home_ok}
use Rattle.matrix_shape.specs.Rows.{at}
use Rattle.matrix_walk.specs.Cursors.{has, cursor, pair_ok, line_ok}
use Rattle.matrix_walk.proofs.Cursors.{cursor_next}
use Rattle.matrix_walk.specs.Walk.{before, own, row_tested, stored_here, stored_there}

module _ (m : ℕ) (s c d : ℕ → ℕ) where
  pub row_moves : (r : ℕ) (g g' g'' : ℕ → ℕ) → every (line_ok m s c d) 0 (r + 1) ≡ true → ((j : ℕ) → j < r → g j ≡ cursor s c d r j)
      → ((j : ℕ) → j < r → g' j ≡ g j + bit (has c (s r) (d r) j))
      → g'' r ≡ d r + 1 → ((j : ℕ) → (r ≡ j → ⊥) → g'' j ≡ g' j) → (j : ℕ) → j < r + 1 → g'' j ≡ cursor s c d (r + 1) j
  row_moves r g g' g'' t before moved mine others j l =
      ⊎_elim (λ (u : j < r). omega (arith, others j (λ e. omega arith), moved j u, before j u, cursor_next s c d r j))
      (λ (u : r ≤ j). let e : j ≡ r = omega arith in rw e (omega (arith, mine, (own m s c d) r t))) (below_or j r)

-- the same as the loop's turn has it: a, b and k are where row r starts, where it ends and where its diagonal stands
module _ (m : ℕ) (s c d : ℕ → ℕ) (n r : ℕ) (l : r < n) (a b k : ℕ) (ea : a ≡ s r) (eb : b ≡ s (r + 1)) (ek : k ≡ d r) where
  module _ (old : List ℕ) (stood : (j : ℕ) → j < r → at old j ≡ cursor s c d r j) where
    module _ (new : List ℕ) (room : r < length new) (rows : every (line_ok m s c d) 0 r ≡ true) (home : home_ok c a b k r ≡ true)
        (t : every (pair_ok m c (at old) a r) a k ≡ true) where
      pub row_stands : ((j : ℕ) → j < r → at new j ≡ at old j + bit (has c a k j)) → (j : ℕ) → j < r + 1 → at (set new r (k + 1)) j ≡ cursor s c d (r + 1) j
      row_stands moved =
          row_moves m s c d r (at old) (at new) (at (set new r (k + 1))) (row_tested m s c d n r l a b k ea eb ek old stood new room rows home t) stood (λ j u. rw (ea, ek) at (moved j u))
          (stored_here new r (k + 1) room ∙ ap (λ (z : ℕ). z + 1) ek) (λ j u. stored_there new r (k + 1) j u)
