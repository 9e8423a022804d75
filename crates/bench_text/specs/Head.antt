-- What the first pass answers: a text's counts, if the text is as described.
use Rattle.std.specs.Prelude.{ℕ, ◌+◌, ◌*◌, cond, List, eqb, Option, None, Some}
use Rattle.bench_text.specs.Text.{described, particle_count, pair_count}
use Rattle.bench_text.specs.declared.inner.Counts.{Counts}

abbrev pub counts_of : ℕ → ℕ → Counts
counts_of n p = record { n = n; pairs = p }

unfoldable pub head_of : List ℕ → Option Counts
head_of s = cond (described s) (Some (counts_of (particle_count s) (pair_count s))) None

-- from how many numbers there are, and the first two
unfoldable pub counted_of : ℕ → ℕ → ℕ → Option Counts
counted_of k n p = cond (eqb k (2 + 2 * p)) (Some (counts_of n p)) None
