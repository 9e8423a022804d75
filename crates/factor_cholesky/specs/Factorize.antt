-- CHOLESKY'S FACTOR IN THE CALLER'S LIST. The call `factorize` was handed i and came to o: o.answer is what it answered,
-- o.values the caller's list as it then stands. `at l k` is what stands at place k of the list l.
use Rattle.std.specs.Prelude.{ℕ, ◌*◌, ◌≤◌, ◌≡◌, true, List, ◌⊎◌, length, drop, Float, Ok, Err}
use Rattle.law.specs.declared.refusal.Refusal.{Refusal}
use Rattle.law.specs.Limit.{particles, envelope}
use Rattle.law.specs.Room.{enough}
use Rattle.law.specs.Promise.{Promise}
use Rattle.matrix_shape.specs.Rows.{at}
use Rattle.matrix_shape.specs.Given.{pattern_room, formed}
use Rattle.plan_fits.specs.Fits.{fits_ok}
use Rattle.plan_fits.specs.Given.{plan_room, factor_length}
use Rattle.plan_fits.specs.Cells.{Cell, look}
use Rattle.factor_load.specs.Permuted.{Matrix, permuted}
use Rattle.factor_make.specs.Factored as outcome
use Rattle.factor_make.specs.Entry.{Finished, Ended, Cholesky}
use Rattle.factor_doors.specs.Factorizing.{In, Out, left, values_room, door}

-- what the call tests, each refusal turned round
pub record Accepted (i : In) : Type 0 where
  -- 1: at most 1,024 particles
  pub few : i.n ≤ particles
  -- 3: the lists have the places that the pattern, the plan, the blocks and the factor fill
  pub held : enough true (pattern_room i.n i.row_offsets i.cols i.diagonal) ≡ true
  pub planned : enough true (plan_room i.n i.perm i.inv_perm i.first i.row_start) ≡ true
  pub room : enough true (values_room i.n i.row_offsets i.blocks i.row_start i.values) ≡ true
  -- 5: the pattern is well formed
  pub well : formed i.n i.row_offsets i.cols i.diagonal ≡ true
  -- 6: the plan fits it
  pub fits : fits_ok i.n (at i.row_offsets) (at i.cols) (at i.perm) (at i.inv_perm) (at i.first) (at i.row_start) ≡ true
  -- 7: the envelope has at most 16,384 entries
  pub short : factor_length i.n i.row_start ≤ envelope

-- the matrix of the caller's own pattern and blocks, its rows and columns in the caller's own order
abbrev pub matrix_in : In → Matrix
matrix_in i = permuted (at i.row_offsets) (at i.cols) i.blocks (at i.perm)

-- what a list of values holds at each row and column of the caller's envelope
abbrev pub entries_in : In → List Float → Matrix
entries_in i v = look (at i.first) (at i.row_start) v

-- what a call leaves, whatever it answered
pub record Leaves (i : In) (o : Out) : Type 0 where
  -- Done: CHOLESKY'S FACTOR, every row of it finished
  pub done : o.answer ≡ Ok (Ok tt) → Finished (2 * i.n) (at i.first) (matrix_in i) (entries_in i o.values)
  -- Failed: it ended at row r, the first whose pivot, d, isn't above zero
  pub failed : (r : ℕ) (d : Float) → o.answer ≡ Ok (Err (outcome.failed r d)) → Ended (2 * i.n) (at i.first) (matrix_in i) (entries_in i o.values) r d
  -- Refused: the list as it was
  pub refused : (k : Refusal) → o.answer ≡ Err k → o.values ≡ i.values
  -- and past the factor's length it always is
  pub rest : drop (factor_length i.n i.row_start) o.values ≡ drop (factor_length i.n i.row_start) i.values
  pub long : length o.values ≡ length i.values

-- THE CALL LEAVES CHOLESKY'S FACTOR of the permuted matrix in the caller's list, entry by entry
abbrev pub LeavesCholesky : Type 0
LeavesCholesky = (i : In) (o : Out) → Promise door i o → Leaves i o

-- it has answered and not refused
abbrev pub Answered : Out → Type 0
Answered o = (o.answer ≡ Ok (Ok tt)) ⊎ ((r : ℕ) × ((d : Float) × (o.answer ≡ Ok (Err (outcome.failed r d)))))

-- it answers exactly where its tests pass
abbrev pub AnsweredExactly : Type 0
AnsweredExactly = (i : In) (o : Out) → Promise door i o → (Accepted i → Answered o) × (Answered o → Accepted i)

-- AND NOTHING ELSE IS CHOLESKY'S FACTOR: whatever matrix l and ending h are so, wherever l stands, the call ended so and left l's entries in the envelope
abbrev pub OneFactor : Type 0
OneFactor =
    (i : In) (o : Out) → Promise door i o → Accepted i → (l : Matrix) (h : outcome.Factored) → Cholesky (2 * i.n) (at i.first) (matrix_in i) l h
    → (o.answer ≡ Ok h) × ((r c : ℕ) → Cell (2 * i.n) (at i.first) r c → entries_in i o.values r c ≡ l r c)

-- so the whole outcome is: a list v of the same length and rest whose entries are so is the one that was left
abbrev pub OneList : Type 0
OneList =
    (i : In) (o : Out) → Promise door i o → Accepted i → (v : List Float) (h : outcome.Factored) → length v ≡ length i.values
    → drop (factor_length i.n i.row_start) v ≡ drop (factor_length i.n i.row_start) i.values
    → Cholesky (2 * i.n) (at i.first) (matrix_in i) (entries_in i v) h → o ≡ left (Ok h) v
