-- HOW A ROW IS PINNED: its slots and their mirrors are set to zero one after the other, then its
-- diagonal to the identity; and that this leaves the blocks as Dirichlet.antt has them.
use Prim.Native.Nat.{ℕ, ◌+◌, ◌*◌, ◌≤◌, ◌<◌}
use Rattle.std.specs.Prelude.{◌≡◌, List, get_or, drop, Float}
use Rattle.std.proofs.Math.ListN.{length}
use Rattle.std.specs.Float.Ieee.{nan}
use Rattle.law.specs.Mix.{Holds}
use Rattle.plane.specs.Lent.{flat, with_block}
use Rattle.matrix_shape.specs.Formed.{InRow, Stored}
use Rattle.matrix_shape.specs.Rows.{at}
use Rattle.matrix_shape.specs.Index.{index_of, Line}
use Rattle.matrix_values.specs.Blocks.{zero_block}

-- the slot of the row `row` in the row that slot k's column names
abbrev pub mirror_of : List ℕ → List ℕ → ℕ → ℕ → ℕ
mirror_of starts cols row k = index_of (at starts) (at cols) (at cols k) row

-- one turn: slot k and its mirror
unfoldable pub crossed : List ℕ → List ℕ → ℕ → ℕ → List Float → List Float
crossed starts cols row k l = with_block (with_block l k zero_block) (mirror_of starts cols row k) zero_block

-- ---- the mirror is looked for in half of its row

-- row c lies within the lists, its diagonal stands where it is recorded, and one of its slots has the column `row`
pub record Facing (starts cols diagonal : List ℕ) (c row : ℕ) : Type 0 where
  pub line : Line starts cols c
  pub mark : c < length diagonal
  pub home : InRow (at starts) c (at diagonal c) × (at cols (at diagonal c) ≡ c)
  pub stored : Stored (at starts) (at cols) c row

module _ (starts cols diagonal : List ℕ) (c row : ℕ) (f : Facing starts cols diagonal c row) where
  abbrev pub slot : ℕ
  slot = f.stored.0

-- what a turn needs
pub record Cross (starts cols diagonal : List ℕ) (row k : ℕ) (l : List Float) : Type 0 where
  pub column : k < length cols
  pub facing : Facing starts cols diagonal (at cols k) row
  pub slot : 4 * k + 3 < length l
  pub mirror : 4 * mirror_of starts cols row k + 3 < length l

-- part j is the same in two lists
abbrev Kept : List Float → List Float → ℕ → Type 0
Kept l t j = (i : ℕ) → i < 4 → get_or t (4 * j + i) nan ≡ get_or l (4 * j + i) nan

-- what holds of the blocks t once the row's slots below k have had their turn; l is what they were before
pub record Crossed (starts cols : List ℕ) (n row : ℕ) (l : List Float) (k : ℕ) (t : List Float) : Type 0 where
  pub long : length t ≡ length l
  pub rest : drop (4 * at starts n) t ≡ drop (4 * at starts n) l
  pub slots : (j : ℕ) → at starts row ≤ j → j < k → Holds 4 nan t j (flat zero_block)
  pub mirrors : (j : ℕ) → at starts row ≤ j → j < k → Holds 4 nan t (mirror_of starts cols row j) (flat zero_block)
  pub others : (j : ℕ) → (InRow (at starts) row j → ⊥) → (at cols j ≡ row → ⊥) → Kept l t j
