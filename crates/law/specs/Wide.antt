-- A number of 32 bits as an index: the same number, and small enough that a few of them add up.
use Rattle.std.specs.Prelude.{ℕ, ◌<◌, ◌≡◌}

pub record Widened (x r : ℕ) : Type 0 where
  pub same : r ≡ x
  pub small : r < 4294967296
