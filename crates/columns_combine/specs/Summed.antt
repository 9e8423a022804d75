-- THE SUM OF COLUMNS: entry after entry, axis after axis, each column times its weight is added to out. A weight that equals 0.0, of either sign, is
-- passed over before its column is looked for; where a column is missing the sum ends, and what was added before stays.
use Rattle.std.specs.Prelude.{ℕ, ◌+◌, ◌*◌, ◌≡◌, Bool, true, false, cond, List, eqb, get_or, Float, Result, Ok, Err}
use Rattle.std.proofs.Math.Nat.{add-zero}
use Rattle.std.specs.Float.{nan}
use Rattle.std.specs.Float.Ieee.{eq}
use borrow.Author.Tests.{eq-eqb, ne_eqb}
use Rattle.law.specs.Limit.{unloaded}
use Rattle.law.specs.Loop.{over}
use Rattle.law.specs.Mix.{mix}
use Rattle.plane.specs.Plane.{zero32}
use Rattle.vectors.specs.Multiples.{advanced_at}
use Rattle.matrix_shape.specs.Rows.{at}
use Rattle.step_entries.specs.Entries.{free}
use Rattle.columns_table.specs.Columns.{column_of}
use Rattle.columns_combine.specs.declared.combine.NoColumn.{NoColumn}

-- out so far, and whether a column was missing
pub record Sum : Type 0 where
  pub out : List Float
  pub missing : Bool

abbrev pub sum_of : List Float → Bool → Sum
sum_of out missing = record { out = out; missing = missing }

-- as the code has it
abbrev pub is_missing : Result (Unit {0}) NoColumn → Bool
is_missing (Ok u) = false
is_missing (Err e) = true

-- going on from a sum, unless a column was missing
abbrev pub and_then : Sum → (List Float → Sum) → Sum
and_then s f = cond s.missing s (f s.out)

-- an entry's weight along axis k
abbrev pub weight_at : List Float → ℕ → ℕ → Float
weight_at gradients e k = get_or gradients (2 * e + k) nan

-- out + column * weight, for axis k of particle p
unfoldable pub axis_added : ℕ → List ℕ → List Float → ℕ → ℕ → Float → List Float → Sum
axis_added n table columns p k weight out =
    cond (eq weight zero32) (sum_of out false)
    (cond (eqb (at table p) unloaded) (sum_of out true)
    (sum_of (mix 2 n (advanced_at weight (column_of n columns (at table p) k) out) out) false))

module _ (n : ℕ) (pinned : List ℕ) (table : List ℕ) (columns : List Float) (particles : List ℕ) (gradients : List Float) where
  unfoldable pub entry_added : ℕ → List Float → Sum
  entry_added e out =
      cond (free pinned particles e)
      (and_then (axis_added n table columns (at particles e) 0 (weight_at gradients e 0) out) (axis_added n table columns (at particles e) 1
      (weight_at gradients e 1)))
      (sum_of out false)

  unfoldable pub summed : ℕ → List Float → Sum
  summed count out = over (λ e s. and_then s (entry_added e)) 0 count (sum_of out false)

-- ---- the turns as the code takes them

module _ (n : ℕ) (table : List ℕ) (columns : List Float) (p k : ℕ) (weight : Float) (out : List Float) where
  pub axis_skipped : eq weight zero32 ≡ true → sum_of out false ≡ axis_added n table columns p k weight out
  unfolding axis_added
  axis_skipped z = rw z

  pub axis_missing : eq weight zero32 ≡ false → at table p ≡ unloaded → sum_of out true ≡ axis_added n table columns p k weight out
  unfolding axis_added
  axis_missing z u = rw (z, eq-eqb _ _ u)

  -- d is the column, m is out with it added
  pub axis_taken : eq weight zero32 ≡ false → (at table p ≡ unloaded → ⊥) → (d m : List Float) → d ≡ column_of n columns (at table p) k
      → m ≡ mix 2 n (advanced_at weight d out) out → sum_of m false ≡ axis_added n table columns p k weight out
  unfolding axis_added
  axis_taken z u d m e h = rw (z, ne_eqb _ _ u, h, e)

-- p is the particle that was read, m is out after axis 0, l after axis 1, t whether that one was missing
module _ (n : ℕ) (pinned : List ℕ) (table : List ℕ) (columns : List Float) (particles : List ℕ) (gradients : List Float) (e : ℕ) (out : List Float)
    (p : ℕ) (same : p ≡ at particles e) where
  pub entry_skipped : (at pinned p ≡ 0 → ⊥) → sum_of out false ≡ entry_added n pinned table columns particles gradients e out
  unfolding entry_added free
  entry_skipped h = rw (← same, ne_eqb _ _ h)

  pub entry_missing : at pinned p ≡ 0 → (m : List Float) → sum_of m true ≡ axis_added n table columns p 0 (get_or gradients (2 * e) nan) out
      → sum_of m true ≡ entry_added n pinned table columns particles gradients e out
  unfolding entry_added free
  entry_missing h m f = rw (← same, eq-eqb _ _ h, add-zero, ← f)

  pub entry_taken : at pinned p ≡ 0 → (m l : List Float) (t : Bool) → sum_of m false ≡ axis_added n table columns p 0 (get_or gradients (2 * e) nan) out
      → sum_of l t ≡ axis_added n table columns p 1 (get_or gradients (2 * e + 1) nan) m
      → sum_of l t ≡ entry_added n pinned table columns particles gradients e out
  unfolding entry_added free
  entry_taken h m l t f g = rw (← same, eq-eqb _ _ h, add-zero, ← f, ← g)
