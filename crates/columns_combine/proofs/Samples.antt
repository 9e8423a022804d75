-- What the readings are computed of, of a combination and of a block: two particles, and one column.
use Prim.Native.Nat.{ℕ}
use mathlib.Core.Bool.{false}
use mathlib.Core.List.{List, [], ◌∷◌, ◌++◌}
use lib.Ieee.{Float, inf, binary32, of_bits}
use Rattle.law.specs.Limit.{unloaded}
use Rattle.plane.specs.Plane.{one32}

abbrev pub two : Float
two = of_bits binary32 0x4000_0000

abbrev pub three : Float
three = of_bits binary32 0x4040_0000

abbrev pub four : Float
four = of_bits binary32 0x4080_0000

abbrev pub infinite : Float
infinite = inf false

-- the two axes of the one column
abbrev pub axis0 : List Float
axis0 = one32 ∷ two ∷ three ∷ four ∷ []

abbrev pub axis1 : List Float
axis1 = four ∷ three ∷ two ∷ one32 ∷ []

abbrev pub column : List Float
column = axis0 ++ axis1

-- none is pinned; the second is; both are
abbrev pub unpinned : List ℕ
unpinned = 0 ∷ 0 ∷ []

abbrev pub second : List ℕ
second = 0 ∷ 1 ∷ []

abbrev pub both : List ℕ
both = 1 ∷ 7 ∷ []

-- the first is loaded; none is
abbrev pub one : List ℕ
one = 0 ∷ unloaded ∷ []

abbrev pub bare : List ℕ
bare = unloaded ∷ unloaded ∷ []
