-- WHAT BUILDING LEAVES, on buffers that are just as long as what they come to hold.
use Rattle.std.specs.Prelude.{ℕ, ◌+◌, ◌-◌, ◌*◌, ◌≤◌, ◌≡◌, true, List, ◌++◌, length, replicate}
use Rattle.law.specs.Every.{every}
use Rattle.law.specs.Limit.{particles, pairs as pairLimit}
use Rattle.matrix_shape.specs.Made.{start_of, starts_of, cols_of, slots_of}
use Rattle.matrix_pairs.specs.Pairs.{pair_ok_at, stored_by}

-- room for every given pair both ways round, and for the diagonals
abbrev pub room_of : ℕ → ℕ → ℕ
room_of n count = n + 2 * count

-- a link for each of a pair's two ways round; the other buffers hold the lists' heads and the other links before they are filled
abbrev pub work_of : ℕ → ℕ → ℕ
work_of n count = 2 * count

-- what building is given, once nothing is refused
pub record Ready (n count : ℕ) (pairs starts cols diagonal work : List ℕ) : Type 0 where
  pub few : n ≤ particles
  pub few_pairs : count ≤ pairLimit
  pub pairs_long : 2 * count ≤ length pairs
  pub starts_long : length starts ≡ n + 1
  pub cols_long : length cols ≡ room_of n count
  pub diagonal_long : length diagonal ≡ n
  pub work_long : length work ≡ work_of n count
  pub pairs_ok : every (pair_ok_at n pairs) 0 count ≡ true

-- the block count, and every buffer
pub record Made : Type 0 where
  pub blocks : ℕ
  pub starts : List ℕ
  pub cols : List ℕ
  pub diagonal : List ℕ
  pub work : List ℕ

abbrev pub made : ℕ → List ℕ → List ℕ → List ℕ → List ℕ → Made
made m s c d w = record { blocks = m; starts = s; cols = c; diagonal = d; work = w }

-- past the columns the room holds zeros
unfoldable pub built_of : ℕ → ℕ → List ℕ → Made
built_of n count pairs =
    let p = stored_by pairs count in
    made (start_of n p n) (starts_of n p) (cols_of n p ++ replicate (room_of n count - start_of n p n) 0) (slots_of n p) (replicate (work_of n count) 0)
