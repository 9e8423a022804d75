-- What follows of specs/Building.antt: its theorems, apart from the definitions.
use Rattle.std.specs.Prelude.{ℕ, ◌+◌, ◌*◌, ◌≤◌, ◌≡◌, true, List, ◌++◌, length, drop, leb, Ok}
use Rattle.std.proofs.Common.{ap, leb-true}
use Rattle.law.specs.Every.{every}
use Rattle.law.specs.Limit.{particles, pairs as pairLimit}
use Rattle.law.specs.Room.{enough}
use Rattle.law.proofs.Room.{enough_is}
use Rattle.law.specs.Refusal.{verdict}
use Rattle.law.proofs.Refusals.{all_pass}
use Rattle.matrix_pairs.specs.Pairs.{pair_ok_at}
use Rattle.matrix_build.specs.Build.{room_of, work_of, Made, made, built_of}
use Rattle.matrix_building.specs.Building.{In, Ready, given, left, lists_room, refusals, work}

pub pairs_room : (i : In) → enough true (lists_room i) ≡ true → 2 * i.count ≤ length i.pairs
unfolding lists_room
pairs_room i h = (enough_is true (lists_room i) h).0

-- the same of the lists one by one, as the code has them
pub pairs_given : (n count : ℕ) (pairs starts cols diagonal work : List ℕ) → enough true (lists_room (given n count pairs starts cols diagonal work)) ≡ true
    → 2 * count ≤ length pairs
pairs_given n count pairs starts cols diagonal work = pairs_room (given n count pairs starts cols diagonal work)

-- from the four tests, one by one
pub ready_of : (i : In) → leb i.n particles ≡ true → leb i.count pairLimit ≡ true → enough true (lists_room i) ≡ true
    → every (pair_ok_at i.n i.pairs) 0 i.count ≡ true → Ready i
unfolding lists_room
ready_of i a b c d =
    let e = enough_is true (lists_room i) c in
    record {
      few = leb-true _ _ a;
      few_pairs = leb-true _ _ b;
      in_pairs = e.0;
      in_starts = e.1.0;
      in_cols = e.1.1.0;
      in_diagonal = e.1.1.1.0;
      in_work = e.1.1.1.1.0;
      pairs_ok = d;
    }

pub ready : (i : In) → Ok tt ≡ verdict (refusals i) → Ready i
unfolding refusals
ready i h =
    let p = all_pass (refusals i) h in
    ready_of i p.0 p.1.0 p.1.1.0 p.1.1.1.0

-- what building leaves in the lent parts is the work of the whole
pub worked : (i : In) (k : ℕ) (s c d w : List ℕ) → made k s c d w ≡ built_of i.n i.count i.pairs
    → left (Ok k) (s ++ drop (i.n + 1) i.row_offsets) (c ++ drop (room_of i.n i.count) i.cols) (d ++ drop i.n i.diagonal)
    (w ++ drop (work_of i.n i.count) i.work)
    ≡ work i
unfolding work
worked i k s c d w e =
    ap (λ (b : Made). left (Ok b.blocks) (b.starts ++ drop (i.n + 1) i.row_offsets) (b.cols ++ drop (room_of i.n i.count) i.cols)
    (b.diagonal ++ drop i.n i.diagonal) (b.work ++ drop (work_of i.n i.count) i.work)) e
