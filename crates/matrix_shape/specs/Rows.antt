-- WHAT A WELL FORMED PATTERN GIVES those who walk over it: rows lie within the lists, each slot is in one row, a column stands in one slot of a row.
use Rattle.std.specs.Prelude.{ℕ, ◌+◌, ◌≤◌, ◌<◌, ◌≡◌, List, length, get_or}
use Rattle.std.proofs.Common.{⊎_elim, arith}
use Rattle.law.proofs.Loop.{rising, climbing, from}
use Rattle.law.specs.Truth.{below_or}
use Rattle.law.specs.Limit.{particles}
use Rattle.matrix_shape.specs.Formed.{InRow, WellFormed}

-- what stands at a place of a list, 0 past its end
abbrev pub at : List ℕ → ℕ → ℕ
at l = λ k. get_or l k 0

-- the lists have room for n rows and m blocks
pub record Held (n m : ℕ) (starts cols diagonal : List ℕ) : Type 0 where
  pub places : n < length starts
  pub columns : m ≤ length cols
  pub marks : n ≤ length diagonal

-- what a walk over the rows' columns needs
pub record Rows (n : ℕ) (starts cols : List ℕ) : Type 0 where
  pub few : n ≤ particles
  pub places : n < length starts
  pub columns : at starts n ≤ length cols
  pub rise : (r : ℕ) → r < n → at starts r ≤ at starts (r + 1)
  pub below : (r k : ℕ) → r < n → InRow (at starts) r k → at cols k < n

-- a well formed pattern in lists that hold it
pub record Pattern (n : ℕ) (starts cols diagonal : List ℕ) : Type 0 where
  pub few : n ≤ particles
  pub held : Held n (at starts n) starts cols diagonal
  pub formed : WellFormed n (at starts n) (at starts) (at cols) (at diagonal)

pub rows_of : (n : ℕ) (starts cols diagonal : List ℕ) → Pattern n starts cols diagonal → Rows n starts cols
rows_of n starts cols diagonal p = record {
  few = p.few;
  places = p.held.places;
  columns = p.held.columns;
  rise = p.formed.rise;
  below
      = p.formed.below;
}

-- ---- where a row lies

pub row_end : (n : ℕ) (s : ℕ → ℕ) → ((r : ℕ) → r < n → s r ≤ s (r + 1)) → (r : ℕ) → r < n → s (r + 1) ≤ s n
row_end n s rise r l = rising s n rise (r + 1) n (omega arith) (omega arith)

-- each slot is in a row
pub row_of : (s : ℕ → ℕ) (k n : ℕ) → s 0 ≤ k → k < s n → (r : ℕ) × ((r < n) × InRow s r k)
row_of s k n h =
    from (λ n. k < s n → (r : ℕ) × ((r < n) × InRow s r k)) 0 (λ g. absurd (omega arith))
    (λ m q ih g. ⊎_elim (λ l. let t = ih l in (t.0, (omega (arith, t.1.0), t.1.1))) (λ l. (m, (omega arith, (l, g)))) (below_or k (s m))) n (omega arith)

-- and in no other
pub one_row : (n : ℕ) (s : ℕ → ℕ) → ((r : ℕ) → r < n → s r ≤ s (r + 1)) → (q r k : ℕ) → q < n → r < n → InRow s q k → InRow s r k → q ≡ r
one_row n s rise q r k l m i j =
    ⊎_elim (λ g. absurd (omega (arith, rising s n rise (q + 1) r (omega arith) (omega arith), i.1, j.0)))
    (λ g. ⊎_elim (λ f. absurd (omega (arith, rising s n rise (r + 1) q (omega arith) (omega arith), i.0, j.1))) (λ f. omega arith) (below_or r q))
    (below_or q r)

-- ---- the columns of a row

module _ (n m : ℕ) (s c d : ℕ → ℕ) (w : WellFormed n m s c d) (r : ℕ) (l : r < n) where
  -- a later slot has a larger column
  pub later : (j k : ℕ) → s r ≤ j → j < k → k < s (r + 1) → c j < c k
  later = climbing c (s r) (s (r + 1)) (λ k h g. w.strict r k l (omega arith, g) h)

  -- a column stands in one slot of a row
  pub one_slot : (j k : ℕ) → InRow s r j → InRow s r k → c j ≡ c k → j ≡ k
  one_slot j k a b e =
      ⊎_elim (λ g. absurd (omega (arith, later j k a.0 g b.1)))
      (λ g. ⊎_elim (λ f. absurd (omega (arith, later k j b.0 f a.1))) (λ f. omega arith) (below_or k j)) (below_or j k)
