-- THE SLOT OF A BLOCK: the slot of row r that has the column col, and `absent` where none has.
use Rattle.std.specs.Prelude.{ℕ, ◌+◌, ◌-◌, ◌≤◌, ◌<◌, ◌≡◌, not, List, eqb, length}
use Rattle.std.proofs.Common.{arith, eq-eqb, ne_eqb}
use Rattle.law.specs.Find.{find, find_none, find_first}
use Rattle.law.proofs.Find.{find_tells}
use Rattle.law.specs.Limit.{absent}
use Rattle.matrix_shape.specs.Formed.{InRow, WellFormed, stored}
use Rattle.matrix_shape.specs.Rows.{at, Pattern, row_end, later}

unfoldable pub index_of : (ℕ → ℕ) → (ℕ → ℕ) → ℕ → ℕ → ℕ
index_of s c r col = find (λ k. eqb (c k) col) (s r) (s (r + 1)) absent

-- ---- what the search needs

-- columns rise strictly on the slots a..b
abbrev pub Strict : (ℕ → ℕ) → ℕ → ℕ → Type 0
Strict c a b = (k : ℕ) → a < k → k < b → c (k - 1) < c k

-- the slots a..b of a column list, each a number of 32 bits that is not `absent`
pub record Slots (cols : List ℕ) (a b : ℕ) : Type 0 where
  pub order : a ≤ b
  pub columns : b ≤ length cols
  pub few : b ≤ absent
  pub strict : Strict (at cols) a b

-- row r lies within the lists, and its columns rise strictly
pub record Line (starts cols : List ℕ) (r : ℕ) : Type 0 where
  pub places : r + 1 < length starts
  pub rise : at starts r ≤ at starts (r + 1)
  pub columns : at starts (r + 1) ≤ length cols
  pub strict : Strict (at cols) (at starts r) (at starts (r + 1))

pub line_of : (n : ℕ) (starts cols diagonal : List ℕ) → Pattern n starts cols diagonal → (r : ℕ) → r < n → Line starts cols r
line_of n starts cols diagonal p r l = record {
  places = omega (arith, p.held.places);
  rise = p.formed.rise r l;
  columns = omega (arith, row_end n (at starts) p.formed.rise r l, p.held.columns);
  strict = λ k h g. p.formed.strict r k l (omega arith, g) h;
}

-- ---- what the answer means

-- a slot of row r with the column col is the answer
pub index_is : (n m : ℕ) (s c d : ℕ → ℕ) → WellFormed n m s c d → (r : ℕ) → r < n → (k col : ℕ) → InRow s r k → c k ≡ col → index_of s c r col ≡ k
unfolding index_of
index_is n m s c d w r l k col i e =
    find_first (λ k. eqb (c k) col) absent (s r) (s (r + 1)) k i.0 i.1 (eq-eqb _ _ e)
    (λ j a b. ne_eqb (c j) col (λ q. omega (arith, later n m s c d w r l j k a b i.1)))

-- no slot of row r has the column col
pub index_none : (s c : ℕ → ℕ) (r col : ℕ) → ((k : ℕ) → InRow s r k → c k ≡ col → ⊥) → index_of s c r col ≡ absent
unfolding index_of
index_none s c r col h = find_none (λ k. eqb (c k) col) absent (s r) (s (r + 1)) (λ j a b. ne_eqb (c j) col (h j (a, b)))

-- block (r,col) is stored exactly if the answer is not `absent`
pub stored_index : (s c : ℕ → ℕ) (r col : ℕ) → s (r + 1) ≤ absent → stored s c r col ≡ not (eqb (index_of s c r col) absent)
unfolding index_of stored
stored_index s c r col h = find_tells (λ k. eqb (c k) col) absent (s r) (s (r + 1)) h
