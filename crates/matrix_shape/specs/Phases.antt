-- WHAT THE FIRST PHASE OF THE TEST GIVES THE NEXT: rows lie within the lists once the row starts have passed.
use Rattle.std.specs.Prelude.{ℕ, ◌+◌, ◌≤◌, ◌<◌, ◌≡◌, true, List, length}
use Rattle.std.proofs.Common.{arith}
use Rattle.matrix_shape.specs.Formed.{starts_ok, starts_is}
use Rattle.matrix_shape.specs.Rows.{at, Held, row_end}

pub record Spread (n : ℕ) (starts cols diagonal : List ℕ) : Type 0 where
  pub held : Held n (at starts n) starts cols diagonal
  pub rise : (r : ℕ) → r < n → at starts r ≤ at starts (r + 1)

module _ (n : ℕ) (starts cols diagonal : List ℕ) where
  pub spread_of : (m : ℕ) → Held n m starts cols diagonal → starts_ok n m (at starts) ≡ true → Spread n starts cols diagonal
  spread_of m h t =
      let p = starts_is n m (at starts) t in
      record { held = record { places = h.places; columns = omega (arith, p.1.1); marks = h.marks }; rise = p.1.0 }

  -- the rows' ends, from their starts
  pub ends_in : Spread n starts cols diagonal → (r : ℕ) → r < n → at starts (r + 1) ≤ length cols
  ends_in p r l = omega (arith, row_end n (at starts) p.rise r l, p.held.columns)
