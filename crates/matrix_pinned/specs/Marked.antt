-- MARKED ROWS PINNED, one after the other from row 0 up: the definition, and what it leaves block by block. A mark is a byte, and zero means free.
use Rattle.std.specs.Prelude.{ℕ, ◌*◌, ◌≤◌, ◌<◌, ◌≡◌, cond, List, ◌⊎◌, eqb, length, drop, Float}
use Rattle.std.proofs.Common.{◌∙◌, eq-eqb, ne_eqb}
use Rattle.law.specs.Loop.{over}
use Rattle.law.specs.Mix.{mix}
use Rattle.plane.specs.Lent.{block_at}
use Rattle.matrix_shape.specs.Formed.{InRow}
use Rattle.matrix_shape.specs.Rows.{at, Pattern}
use Rattle.matrix_values.specs.Blocks.{zero_block, identity}
use Rattle.matrix_pinned.specs.Dirichlet.{pinned}

-- row r pinned if it is marked
unfoldable pub pin_step : ℕ → List ℕ → List ℕ → List ℕ → ℕ → List Float → List Float
pin_step n starts cols marks r l = cond (eqb (at marks r) 0) l (mix 4 (at starts n) (pinned starts cols r l) l)

unfoldable pub pinned_marked : ℕ → List ℕ → List ℕ → List ℕ → List Float → List Float
pinned_marked n starts cols marks l = over (pin_step n starts cols marks) 0 n l

abbrev pub Marked : List ℕ → ℕ → Type 0
Marked marks r = at marks r ≡ 0 → ⊥

-- WHAT PINNING THE ROWS P LEAVES of the blocks l, in whatever order: a pinned row's diagonal is the identity, any other block in a pinned row
-- or column is zero, and every block in neither is as it was; so is what lies behind the blocks.
pub record Pins (n : ℕ) (starts cols diagonal : List ℕ) (P : ℕ → Type 0) (l t : List Float) : Type 0 where
  pub long : length t ≡ length l
  pub rest : drop (4 * at starts n) t ≡ drop (4 * at starts n) l
  pub own : (r : ℕ) → r < n → P r → block_at t (at diagonal r) ≡ identity
  pub crossing : (r k : ℕ) → r < n → InRow (at starts) r k → (k ≡ at diagonal r → ⊥) → P r ⊎ P (at cols k) → block_at t k ≡ zero_block
  pub kept : (r k : ℕ) → r < n → InRow (at starts) r k → (P r → ⊥) → (P (at cols k) → ⊥) → block_at t k ≡ block_at l k

-- what the work requires
pub record Reach (n : ℕ) (starts cols diagonal marks : List ℕ) (l : List Float) : Type 0 where
  pub pattern : Pattern n starts cols diagonal
  pub marked : n ≤ length marks
  pub blocks : 4 * at starts n ≤ length l

-- ---- a row's turn as the code takes it: t is the blocks once the row is pinned

module _ (n : ℕ) (starts cols marks : List ℕ) (r : ℕ) (l : List Float) where
  pub pins : (t : List Float) → Marked marks r → t ≡ mix 4 (at starts n) (pinned starts cols r l) l → t ≡ pin_step n starts cols marks r l
  unfolding pin_step
  pins t m e = e ∙ rw (ne_eqb (at marks r) 0 m)

  pub skips : at marks r ≡ 0 → l ≡ pin_step n starts cols marks r l
  unfolding pin_step
  skips f = rw (eq-eqb (at marks r) 0 f)
