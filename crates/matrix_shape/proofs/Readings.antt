-- Readings of what a pattern's lists need, computed: the tests that compute it stand in crates above. Assumes nothing.
use Prim.Native.Nat.{ℕ}
use mathlib.Core.Path.{◌≡◌, refl}
use mathlib.Core.List.{List, [], ◌∷◌}
use lib.Ieee.{nan}
use Rattle.matrix_shape.specs.Given.{pattern_room, blocks_room}

-- the row offsets of the pair 0-1
abbrev offsets : List ℕ
offsets = 0 ∷ 2 ∷ 4 ∷ []

record Readings : Type 0 where
  -- two rows need three offsets, four columns and two diagonal slots, of the three, one and none that are lent
  lists : pattern_room 2 offsets (0 ∷ []) [] ≡ (3, 3) ∷ (4, 1) ∷ (2, 0) ∷ []
  -- and sixteen floats, of one
  blocks : blocks_room 2 offsets (nan ∷ []) ≡ (16, 1) ∷ []

readings : Readings
unfolding pattern_room blocks_room
readings = record { lists = refl; blocks = refl }
