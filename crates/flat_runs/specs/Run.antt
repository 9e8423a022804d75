-- RUNS: stretches of lent lists of floats, worked through one float at a time from the left.
use Rattle.std.specs.Prelude.{ℕ, ◌+◌, List, get_or, set, Float}
use Rattle.std.specs.Float.{nan}
use Rattle.law.specs.Loop.{over}
use Rattle.plane.specs.Plane.{◌⊕◌, ◌⊖◌, ◌⊗◌, zero32}

-- the products of u's floats from a on with v's from b on
abbrev pub run_step : List Float → ℕ → List Float → ℕ → ℕ → Float → Float
run_step u a v b c sum = sum ⊕ get_or u (a + c) nan ⊗ get_or v (b + c) nan

-- m of them, added from +0.0
unfoldable pub dot_run : List Float → ℕ → List Float → ℕ → ℕ → Float
dot_run u a v b m = over (run_step u a v b) 0 m zero32

-- u's floats from a on, times t, taken from y's from b on
abbrev pub take_step : List Float → ℕ → ℕ → Float → ℕ → List Float → List Float
take_step u a b t c y = set y (b + c) (get_or y (b + c) nan ⊖ get_or u (a + c) nan ⊗ t)

unfoldable pub take_run : List Float → ℕ → ℕ → ℕ → Float → List Float → List Float
take_run u a b m t y = over (take_step u a b t) 0 m y
