-- ONE ROW OF THE FACTOR, IN PLACE, as the code works it out: f r is the first column of row r, s r the place where row r starts.
use Rattle.std.specs.Prelude.{ℕ, ◌+◌, ◌-◌, ◌≤◌, ◌<◌, ◌≡◌, cond, List, ltb, length, get_or, set, Float}
use Rattle.std.proofs.Common.{⊎_elim, arith, lt-ltb, le-ltb}
use Rattle.std.specs.Float.{nan}
use Rattle.law.specs.Loop.{over}
use Rattle.law.specs.Truth.{below_or}
use Rattle.plane.specs.Plane.{◌⊖◌, ◌⊗◌, ◌⊘◌}
use Rattle.flat_runs.specs.Run.{dot_run}
use Rattle.matrix_shape.specs.Rows.{at}
use Rattle.plan_fits.specs.Cells.{Cell, place, Drawn, held, corner}

-- the later of two columns
unfoldable pub later : ℕ → ℕ → ℕ
later a b = cond (ltb a b) b a

pub later_left : (a b : ℕ) → a ≤ later a b
unfolding later
later_left a b = ⊎_elim (λ h. rw (lt-ltb a b h) (omega arith)) (λ h. rw (le-ltb a b h) (omega arith)) (below_or a b)

pub later_right : (a b : ℕ) → b ≤ later a b
unfolding later
later_right a b = ⊎_elim (λ h. rw (lt-ltb a b h) (omega arith)) (λ h. rw (le-ltb a b h) h) (below_or a b)

-- In the next four a row holds the columns from `low` on, from place `begin` on, and row j those from `low-j` on, from place `begin-j` on.

-- what stands in column j of the row, less the sum of the two rows' products over the columns before j that both hold; where there is none, as it stands
unfoldable pub reduced_of : List Float → ℕ → ℕ → ℕ → ℕ → ℕ → Float
reduced_of v low begin low-j begin-j j =
    let k = later low low-j in
    let e = get_or v (begin + (j - low)) nan in
    cond (ltb k j) (e ⊖ dot_run v (begin + (k - low)) v (begin-j + (k - low-j)) (j - k)) e

-- and that over row j's diagonal
unfoldable pub entry_of : (ℕ → ℕ) → (ℕ → ℕ) → List Float → ℕ → ℕ → ℕ → Float
entry_of f s v low begin j = reduced_of v low begin (f j) (s j) j ⊘ get_or v (place f s j j) nan

unfoldable pub entry_step : (ℕ → ℕ) → (ℕ → ℕ) → ℕ → ℕ → ℕ → List Float → List Float
entry_step f s low begin j v = set v (begin + (j - low)) (entry_of f s v low begin j)

-- row i left of its diagonal
unfoldable pub left_of : (ℕ → ℕ) → (ℕ → ℕ) → ℕ → ℕ → ℕ → List Float → List Float
left_of f s low begin i v = over (entry_step f s low begin) low i v

-- the diagonal entry, at the place b, less one square after another of the row's entries before it, from the place a on
unfoldable pub square_step : List Float → ℕ → Float → Float
square_step v k d = d ⊖ get_or v k nan ⊗ get_or v k nan

unfoldable pub pivot_of : List Float → ℕ → ℕ → Float
pivot_of v a b = over (square_step v) a b (get_or v b nan)

-- ---- what the code asks

-- column j of a row: the row's own entry, and row j up to its diagonal, lie within `room` places
pub record CellReach (first starts : List ℕ) (room low begin j : ℕ) : Type 0 where
  pub mine : low ≤ j
  pub here : begin + (j - low) < room
  pub firsts : j < length first
  pub begins : j < length starts
  pub theirs : at first j ≤ j
  pub there : at starts j + (j - at first j) < room

pub reach_of : {m room i j : ℕ} {first starts : List ℕ} → Drawn m first starts → room ≡ at starts m → Cell m (at first) i j
    → CellReach first starts room (at first i) (at starts i) j
reach_of {m} {room} {i} {j} {first} {starts} d e c =
    let r = c.row in
    let u = c.upto in
    record {
      mine = c.left;
      here = omega (arith, held d.skyline c);
      firsts = omega (arith, d.firsts);
      begins = omega (arith, d.begins);
      theirs = d.skyline.low j (omega arith);
      there = omega (arith, held d.skyline (corner d.skyline j (omega arith)));
    }
