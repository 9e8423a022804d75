-- FROM PAIRS TO THEIR PATTERN, in lists that are longer.
use Rattle.std.specs.Prelude.{ℕ, ◌+◌, ◌-◌, ◌*◌, ◌≤◌, ◌≡◌, true, length, take, drop, replicate, Ok}
use Rattle.std.proofs.Math.Path.{ap}
use Rattle.std.proofs.Common.{◌∙◌, arith, take_at}
use mathlib.Core.List.{List, ◌++◌, append_assoc}
use Rattle.law.specs.Every.{every}
use Rattle.law.proofs.Gather.{length_table}
use Rattle.law.specs.Limit.{particles, pairs as pairLimit}
use Rattle.matrix_shape.specs.Made.{start_of, starts_of, slots_of, begins, length_cols}
use Rattle.matrix_shape.specs.Rows.{at, Pattern}
use Rattle.matrix_build.specs.Build.{room_of, work_of, built_of}
use Rattle.matrix_pairs.specs.Pairs.{pair_ok_at, stored_by, built_formed}
use Rattle.matrix_building.specs.Building as building
use Rattle.bench_plan.specs.Outcome.{starts_by, cols_by}

-- counts within the limits, and that many pairs
pub record Counted (n count : ℕ) (pairs : List ℕ) : Type 0 where
  pub few : n ≤ particles
  pub few_pairs : count ≤ pairLimit
  pub all : 2 * count ≤ length pairs

-- lists that are long enough for any counts within the limits
pub record Sheet (starts cols diagonal work order : List ℕ) : Type 0 where
  pub starts_room : particles + 1 ≤ length starts
  pub cols_room : room_of particles pairLimit ≤ length cols
  pub diagonal_room : particles ≤ length diagonal
  pub work_room : work_of particles pairLimit ≤ length work
  pub order_room : particles ≤ length order

-- IT IS A PATTERN, whatever stands behind it
module _ (n count : ℕ) (pairs a b c : List ℕ) where
  pub ends_at : at (starts_by n count pairs ++ a) n ≡ start_of n (stored_by pairs count) n
  ends_at = (begins n (stored_by pairs count) a b c).start n (omega arith)

  pub patterned : n ≤ particles → Pattern n (starts_by n count pairs ++ a) (cols_by n count pairs ++ b) (slots_of n (stored_by pairs count) ++ c)
  patterned few =
      record {
        few = few;
        held = rw ends_at (begins n (stored_by pairs count) a b c).held;
        formed = rw ends_at (built_formed pairs count n a b c);
      }

module _ (n count : ℕ) (pairs : List ℕ) (g : Counted n count pairs) where
  pub ready : (starts cols diagonal work order : List ℕ) → Sheet starts cols diagonal work order → every (pair_ok_at n pairs) 0 count ≡ true
      → building.Ready (building.given n count pairs starts cols diagonal work)
  ready starts cols diagonal work order h e =
      record {
        few = g.few;
        few_pairs = g.few_pairs;
        in_pairs = g.all;
        in_starts = omega (arith, g.few, h.starts_room);
        in_cols = omega (arith, g.few, g.few_pairs, h.cols_room);
        in_diagonal = omega (arith, g.few, h.diagonal_room);
        in_work = omega (arith, g.few_pairs, h.work_room);
        pairs_ok = e;
      }

  -- what stands behind the columns
  unfoldable rest : List ℕ → List ℕ
  rest cols = replicate (room_of n count - start_of n (stored_by pairs count) n) 0 ++ drop (room_of n count) cols

  -- s, c, d, w are what building leaves
  module _ (starts cols diagonal work : List ℕ) (m : ℕ) (s c d w : List ℕ) (is : building.left (Ok m) s c d w ≡ building.work
      (building.given n count pairs starts cols diagonal work)) where
    starts_are : s ≡ starts_by n count pairs ++ drop (n + 1) starts
    unfolding building.work built_of
    starts_are = ap (λ (o : building.Out). o.row_offsets) is

    cols_are : c ≡ cols_by n count pairs ++ rest cols
    unfolding building.work built_of rest
    cols_are = ap (λ (o : building.Out). o.cols) is ∙ append_assoc (cols_by n count pairs) _ _

    slots_are : d ≡ slots_of n (stored_by pairs count) ++ drop n diagonal
    unfolding building.work built_of
    slots_are = ap (λ (o : building.Out). o.diagonal) is

    pub built_pattern : Pattern n s c d
    built_pattern = rw (starts_are, cols_are, slots_are) (patterned n count pairs (drop (n + 1) starts) (rest cols) (drop n diagonal) g.few)

    ends : at s n ≡ start_of n (stored_by pairs count) n
    ends = rw starts_are (ends_at n count pairs (drop (n + 1) starts) (rest cols) (drop n diagonal))

    pub starts_part : take (n + 1) s ≡ starts_by n count pairs
    unfolding starts_of
    starts_part = rw starts_are (take_at (starts_by n count pairs) (drop (n + 1) starts) (n + 1) (length_table (start_of n (stored_by pairs count)) (n + 1)))

    pub cols_part : take (at s n) c ≡ cols_by n count pairs
    cols_part = rw (ends, cols_are) (take_at (cols_by n count pairs) (rest cols) (start_of n (stored_by pairs count) n) (length_cols n (stored_by pairs count)))
