-- WHAT THE PASSES' NUMBERS ARE, entry by entry: y(i) = (b(i) − Σ L(i,k)·y(k)) / L(i,i), then x(i) = (y(i)
-- less L(j,i)·x(j) for each row j below that has the column i, the last row first) / L(i,i).
use Prim.Native.Nat.{ℕ, ◌+◌, ◌-◌}
use Rattle.std.specs.Prelude.{cond, leb}
use mathlib.Core.List.{List}
use Rattle.std.proofs.Math.ListN.{get_or}
use Rattle.std.specs.Float.Ieee.{Float, nan}
use Rattle.law.specs.Loop.{over}
use Rattle.plane.specs.Plane.{◌⊖◌, ◌⊗◌}

module _ (f : ℕ → ℕ) (l : ℕ → ℕ → Float) where
  -- entry i less row j's part, where row j has the column i
  unfoldable pub less_of : ℕ → ℕ → Float → Float → Float
  less_of j i x t = cond (leb (f j) i) (t ⊖ l j i ⊗ x) t

  -- what is left of entry i once the rows below have taken their parts, the last row of m first; x is the solution
  unfoldable pub owed : ℕ → List Float → ℕ → Float → Float
  owed m x i t = over (λ k. less_of (m - (k + 1)) i (get_or x (m - (k + 1)) nan)) 0 (m - (i + 1)) t
