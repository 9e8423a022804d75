-- CHOLESKY'S FACTOR, ENTRY BY ENTRY, without lists or places: a is the matrix, l its factor, and f r the first
-- column that row r holds. `Cholesky` is the rule (module 4) on what the factor's entries are in the end;
-- proofs/Meaning.antt shows it of what the code leaves, and proofs/Only.antt that it admits one outcome.
use Rattle.std.specs.Prelude.{ℕ, ◌≤◌, ◌<◌, ◌≡◌, true, false, cond, ltb, Float, Ok, Err}
use Rattle.std.specs.Float.Ieee.{lt}
use Rattle.law.specs.Loop.{over}
use Rattle.plane.specs.Plane.{◌⊕◌, ◌⊖◌, ◌⊗◌, ◌⊘◌, zero32}
use Rattle.root.specs.Sqrt.{sqrt_of}
use Rattle.factor_load.specs.Permuted.{Matrix}
use Rattle.factor_row.specs.Row.{later}
use Rattle.factor_make.specs.Factored.{Factored}

-- one column's turn of the sum of two rows' products
unfoldable pub product_step : Matrix → ℕ → ℕ → ℕ → Float → Float
product_step l i j k sum = sum ⊕ l i k ⊗ l j k

-- L(i,j) left of the diagonal: (A(i,j) − Σ L(i,k)·L(j,k)) / L(j,j). The sum runs over the columns before j that both rows hold,
-- left to right from +0.0, and is subtracted once it is finished; where there is no such column, nothing is subtracted
unfoldable pub entry : (ℕ → ℕ) → Matrix → Matrix → ℕ → ℕ → Float
entry f a l i j =
    let k = later (f i) (f j) in
    cond (ltb k j) (a i j ⊖ over (product_step l i j) k j zero32) (a i j) ⊘ l j j

-- row i's pivot: A(i,i) less one square L(i,k)·L(i,k) after another
unfoldable pub pivot_step : Matrix → ℕ → ℕ → Float → Float
pivot_step l i k d = d ⊖ l i k ⊗ l i k

unfoldable pub pivot : (ℕ → ℕ) → Matrix → Matrix → ℕ → Float
pivot f a l i = over (pivot_step l i) (f i) i (a i i)

-- ---- what stands in the end

-- m rows are finished: their pivots are above zero, and the diagonal has the pivots' roots
pub record Finished (m : ℕ) (f : ℕ → ℕ) (a l : Matrix) : Type 0 where
  pub left : (i j : ℕ) → i < m → f i ≤ j → j < i → l i j ≡ entry f a l i j
  pub above : (i : ℕ) → i < m → lt zero32 (pivot f a l i) ≡ true
  pub diagonal : (i : ℕ) → i < m → l i i ≡ sqrt_of (pivot f a l i)

-- the work ended at row r, whose pivot d isn't above zero: the rows before it are finished, its own
-- entries left of the diagonal too, its diagonal and all later rows are the matrix's
pub record Ended (m : ℕ) (f : ℕ → ℕ) (a l : Matrix) (r : ℕ) (d : Float) : Type 0 where
  pub row : r < m
  pub earlier : Finished r f a l
  pub left : (j : ℕ) → f r ≤ j → j < r → l r j ≡ entry f a l r j
  pub reached : d ≡ pivot f a l r
  pub fails : lt zero32 d ≡ false
  pub diagonal : l r r ≡ a r r
  pub rest : (i j : ℕ) → r < i → i < m → f i ≤ j → j ≤ i → l i j ≡ a i j

abbrev pub Cholesky : ℕ → (ℕ → ℕ) → Matrix → Matrix → Factored → Type 0
Cholesky m f a l (Ok _) = Finished m f a l
Cholesky m f a l (Err e) = Ended m f a l e.row e.pivot
