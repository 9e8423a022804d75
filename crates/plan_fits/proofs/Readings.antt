-- Readings of the tests, computed: the plans of RULES.md § 11 for one particle and for the
-- chain 0-1-2, and neighbours of the latter that do not fit; and an entry of an envelope. Assumes nothing.
use mathlib.Core.Path.{◌≡◌, refl}
use mathlib.Core.Bool.{Bool, true, false}
use mathlib.Core.List.{List, [], ◌∷◌}
use Prim.Native.Nat.{ℕ}
use lib.Ieee.{Float, binary32, of_bits}
use Rattle.law.specs.Loop.{over, fold}
use Rattle.law.specs.Every.{every}
use Rattle.matrix_shape.specs.Rows.{at}
use Rattle.plan_fits.specs.Fits.{back_ok, undo_ok, twins_ok, firsts_ok, grow_ok, starts_ok, plan_rules_ok, slot_ok, row_ok, inside_ok, fits_ok}
use Rattle.plan_fits.specs.Cells.{look}

-- a plan for the chain's pattern
chain : List ℕ → List ℕ → List ℕ → List ℕ → Bool
chain order inverse first starts = fits_ok 3 (at (0 ∷ 2 ∷ 5 ∷ 7 ∷ [])) (at (0 ∷ 1 ∷ 0 ∷ 1 ∷ 2 ∷ 1 ∷ 2 ∷ [])) (at order) (at inverse) (at first) (at starts)

-- a float told apart by its bits
float : ℕ → Float
float k = of_bits binary32 k

record Readings : Type 0 where
  alone : fits_ok 1 (at (0 ∷ 1 ∷ [])) (at (0 ∷ [])) (at (0 ∷ [])) (at (0 ∷ [])) (at (0 ∷ 0 ∷ [])) (at (0 ∷ 1 ∷ 3 ∷ [])) ≡ true
  fits : chain (2 ∷ 1 ∷ 0 ∷ []) (2 ∷ 1 ∷ 0 ∷ []) (0 ∷ 0 ∷ 0 ∷ 0 ∷ 2 ∷ 2 ∷ []) (0 ∷ 1 ∷ 3 ∷ 6 ∷ 10 ∷ 13 ∷ 17 ∷ []) ≡ true
  -- any order does whose blocks lie inside
  whole : chain (0 ∷ 2 ∷ 1 ∷ []) (0 ∷ 2 ∷ 1 ∷ []) (0 ∷ 0 ∷ 0 ∷ 0 ∷ 0 ∷ 0 ∷ []) (0 ∷ 1 ∷ 3 ∷ 6 ∷ 10 ∷ 15 ∷ 21 ∷ []) ≡ true
  repeated : chain (2 ∷ 1 ∷ 2 ∷ []) (2 ∷ 1 ∷ 0 ∷ []) (0 ∷ 0 ∷ 0 ∷ 0 ∷ 2 ∷ 2 ∷ []) (0 ∷ 1 ∷ 3 ∷ 6 ∷ 10 ∷ 13 ∷ 17 ∷ []) ≡ false
  odd : chain (2 ∷ 1 ∷ 0 ∷ []) (2 ∷ 1 ∷ 0 ∷ []) (0 ∷ 0 ∷ 0 ∷ 0 ∷ 1 ∷ 1 ∷ []) (0 ∷ 1 ∷ 3 ∷ 6 ∷ 10 ∷ 14 ∷ 19 ∷ []) ≡ false
  outside : chain (2 ∷ 1 ∷ 0 ∷ []) (2 ∷ 1 ∷ 0 ∷ []) (0 ∷ 0 ∷ 0 ∷ 0 ∷ 4 ∷ 4 ∷ []) (0 ∷ 1 ∷ 3 ∷ 6 ∷ 10 ∷ 11 ∷ 13 ∷ []) ≡ false
  -- rows that begin at column 0 hold (0,0), (1,0), (1,1), (2,0) and so on
  entry : look (at (0 ∷ 0 ∷ 0 ∷ [])) (at (0 ∷ 1 ∷ 3 ∷ 6 ∷ [])) (float 5 ∷ float 6 ∷ float 7 ∷ float 8 ∷ []) 2 0 ≡ float 8

readings : Readings
unfolding chain float over fold every back_ok undo_ok twins_ok firsts_ok grow_ok starts_ok plan_rules_ok slot_ok row_ok inside_ok fits_ok
readings = record { alone = refl; fits = refl; whole = refl; repeated = refl; odd = refl; outside = refl; entry = refl }
