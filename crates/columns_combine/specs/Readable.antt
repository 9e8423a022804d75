-- COLUMNS THAT CAN BE READ: each number of the table is a column that ends inside the buffer. What the work requires of them, once their tests have passed.
use Rattle.std.specs.Prelude.{ℕ, ◌+◌, ◌*◌, ◌≤◌, ◌<◌, ◌≡◌, true, List, length, Float}
use Rattle.std.proofs.Common.{ap, ◌∙◌, arith}
use Rattle.law.specs.Limit.{particles, unloaded}
use Rattle.law.specs.Store.{length_part}
use Rattle.matrix_shape.specs.Rows.{at}
use Rattle.columns_table.specs.Table.{table_ok}
use Rattle.columns_table.specs.Test.{numbered_is}
use Rattle.columns_table.specs.Columns.{start_of, column_of, columns_need, column_inside}

pub record Readable (n : ℕ) (table : List ℕ) (columns : List Float) : Type 0 where
  pub few : n ≤ particles
  pub places : n ≤ length table
  pub inside : (p k : ℕ) → p < n → k < 2 → (at table p ≡ unloaded → ⊥) → start_of n (at table p) k + 2 * n ≤ length columns

pub readable_of : (n : ℕ) (pinned : List ℕ) (loaded : ℕ) (table : List ℕ) (columns : List Float) → n ≤ particles → n ≤ length table
    → columns_need n loaded ≤ length columns → table_ok n pinned loaded table ≡ true → Readable n table columns
readable_of n pinned loaded table columns l g room h = record {
  few = l;
  places = g;
  inside = λ p k less two u. omega (arith, column_inside n (at table p) k loaded ((numbered_is n pinned loaded table h).inside p less u) two, room);
}

-- the same of the number as the code reads it
pub read_inside : (n : ℕ) (table : List ℕ) (columns : List Float) (p k c : ℕ) → Readable n table columns
    → (p < n) × (k < 2) × (at table p ≡ unloaded → ⊥) → c ≡ at table p → start_of n c k + 2 * n ≤ length columns
read_inside n table columns p k c w h e = rw e (w.inside p k h.0 h.1 h.2)

-- one column that can be read
pub record Stored (n c : ℕ) (columns : List Float) : Type 0 where
  pub few : n ≤ particles
  pub number : c < unloaded
  pub inside : (k : ℕ) → k < 2 → start_of n c k + 2 * n ≤ length columns

pub stored_of : (n : ℕ) (table : List ℕ) (columns : List Float) (p c : ℕ) → Readable n table columns → p < n → (c ≡ at table p) × (c < unloaded)
    → Stored n c columns
stored_of n table columns p c w l h =
    record { few = w.few; number = h.1; inside = λ k g. read_inside n table columns p k c w (l, g, (λ u. omega (arith, h.0, h.1))) h.0 }

pub stored_long : (n c : ℕ) (columns : List Float) (k : ℕ) (d : List Float) → Stored n c columns → k < 2 → d ≡ column_of n columns c k → length d ≡ 2 * n
stored_long n c columns k d w g e =
    ap length e ∙ length_part (start_of n c k) (start_of n c k + 2 * n) columns (omega arith) (w.inside k g) ∙ omega arith

-- a column has two floats to each particle
pub column_long : (n : ℕ) (table : List ℕ) (columns : List Float) (p k : ℕ) (d : List Float) → Readable n table columns → p < n → k < 2
    → (at table p ≡ unloaded → ⊥) → d ≡ column_of n columns (at table p) k → length d ≡ 2 * n
column_long n table columns p k d w l g u e =
    ap length e ∙ length_part (start_of n (at table p) k) (start_of n (at table p) k + 2 * n) columns (omega arith) (w.inside p k l g u) ∙ omega arith
