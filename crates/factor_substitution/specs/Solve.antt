-- THE DIRECT SOLVE with a plan and a factor as it stands: b by positions, the two passes there, and back by particles. Position i holds
-- particle o i, particle q is at position p q, and row i of the factor has the columns f i .. i and lies in v from s i on.
use Rattle.std.specs.Prelude.{ℕ, ◌*◌, List, Float}
use Rattle.law.specs.Gather.{gather}
use Rattle.plane.specs.Plane.{zero_of}
use Rattle.plane.specs.Lent.{vector_at}
use Rattle.plan_fits.specs.Cells.{look}
use Rattle.factor_passes.specs.Passes.{forward_of, backward_of}

-- n parts, part i being v's part p i
unfoldable pub permuted : ℕ → (ℕ → ℕ) → List Float → List Float
permuted n p v = gather (λ i. vector_at v (p i)) 0 n

-- the solution by positions
unfoldable pub placed_of : ℕ → (ℕ → ℕ) → (ℕ → ℕ) → (ℕ → ℕ) → List Float → List Float → List Float
placed_of n o f s v b = backward_of f (look f s v) (2 * n) (forward_of f (look f s v) (2 * n) (permuted n o b))

-- and by particles
unfoldable pub solve_of : ℕ → (ℕ → ℕ) → (ℕ → ℕ) → (ℕ → ℕ) → (ℕ → ℕ) → List Float → List Float → List Float
solve_of n o p f s v b = permuted n p (placed_of n o f s v b)

-- what the solve leaves: the solution, and zeros in its scratch
pub record Left : Type 0 where
  pub x : List Float
  pub scratch : List Float

abbrev pub left : List Float → List Float → Left
left x scratch = record { x = x; scratch = scratch }

unfoldable pub solved_of : ℕ → (ℕ → ℕ) → (ℕ → ℕ) → (ℕ → ℕ) → (ℕ → ℕ) → List Float → List Float → Left
solved_of n o p f s v b = left (solve_of n o p f s v b) (gather (λ k. zero_of) 0 n)
