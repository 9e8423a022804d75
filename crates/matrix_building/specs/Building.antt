-- THE DOOR `pattern_from_pairs`: the pattern of given pairs, without block values.
use Rattle.std.specs.Prelude.{ℕ, ◌+◌, ◌*◌, ◌≤◌, ◌≡◌, true, List, [], ◌∷◌, ◌++◌, length, drop, leb, Result, Ok, Err}
use Rattle.std.proofs.Common.{arith}
use Rattle.law.specs.Every.{every}
use Rattle.law.specs.Limit.{particles, pairs as pairLimit}
use Rattle.law.specs.declared.refusal.Refusal.{Refusal}
use Rattle.law.specs.declared.refusal.Refusal.TheVariants.{TooManyParticles, TooManyEntries, ShortBuffer, OutOfRange}
use Rattle.law.specs.Room.{Room, enough}
use Rattle.law.specs.Refusal.{Test, unless, Rising}
use Rattle.law.specs.Promise.{Door}
use Rattle.law.specs.Said.{Said}
use Rattle.matrix_pairs.specs.Pairs.{pair_ok_at}
use Rattle.matrix_build.specs.Build.{room_of, work_of, built_of}
use Rattle.matrix_building.specs.Said.{built_said}

pub record In : Type 0 where
  pub n : ℕ
  pub count : ℕ
  pub pairs : List ℕ
  pub row_offsets : List ℕ
  pub cols : List ℕ
  pub diagonal : List ℕ
  pub work : List ℕ

pub record Out : Type 0 where
  pub answer : Result ℕ Refusal
  pub said : Said
  pub row_offsets : List ℕ
  pub cols : List ℕ
  pub diagonal : List ℕ
  pub work : List ℕ

abbrev pub given : ℕ → ℕ → List ℕ → List ℕ → List ℕ → List ℕ → List ℕ → In
given n count pairs starts cols diagonal work = record {
  n = n;
  count = count;
  pairs = pairs;
  row_offsets = starts;
  cols = cols;
  diagonal = diagonal;
  work = work;
}

abbrev pub left : Result ℕ Refusal → List ℕ → List ℕ → List ℕ → List ℕ → Out
left r starts cols diagonal work = record { answer = r; said = built_said r; row_offsets = starts; cols = cols; diagonal = diagonal; work = work }

-- what each list needs, counting every given pair, and what it has
unfoldable pub lists_room : In → Room
lists_room i =
    (2 * i.count, length i.pairs)
    ∷ (i.n + 1, length i.row_offsets)
    ∷ (room_of i.n i.count, length i.cols)
    ∷ (i.n, length i.diagonal)
    ∷ (work_of i.n i.count, length i.work)
    ∷ []

-- THE REFUSALS
unfoldable pub refusals : In → List Test
refusals i =
    unless TooManyParticles (leb i.n particles)
    ∷ unless TooManyEntries (leb i.count pairLimit)
    ∷ unless ShortBuffer (enough true (lists_room i))
    ∷ unless OutOfRange (every (pair_ok_at i.n i.pairs) 0 i.count)
    ∷ []

pub in_order : (i : In) → Rising 1 (refusals i)
unfolding refusals
in_order i = (omega arith, (omega arith, (omega arith, (omega arith, tt))))

-- THE WORK: what is built over the front of each list, whose rest stays
unfoldable pub work : In → Out
work i =
    let b = built_of i.n i.count i.pairs in
    left (Ok b.blocks) (b.starts ++ drop (i.n + 1) i.row_offsets) (b.cols ++ drop (room_of i.n i.count) i.cols)
    (b.diagonal ++ drop i.n i.diagonal)
    (b.work ++ drop (work_of i.n i.count) i.work)

abbrev pub refuse : Refusal → In → Out
refuse k i = left (Err k) i.row_offsets i.cols i.diagonal i.work

abbrev pub door : Door In Out
door = record { tests = refusals; in_order = in_order; work = work; refuse = refuse }

-- what the work requires
pub record Ready (i : In) : Type 0 where
  pub few : i.n ≤ particles
  pub few_pairs : i.count ≤ pairLimit
  pub in_pairs : 2 * i.count ≤ length i.pairs
  pub in_starts : i.n + 1 ≤ length i.row_offsets
  pub in_cols : room_of i.n i.count ≤ length i.cols
  pub in_diagonal : i.n ≤ length i.diagonal
  pub in_work : work_of i.n i.count ≤ length i.work
  pub pairs_ok : every (pair_ok_at i.n i.pairs) 0 i.count ≡ true
