-- THE STEP MATRIX'S FACTOR. The call `factorize_step_matrix` was handed i and came to o. Where 2n is at most max_dense_dofs, it
-- leaves what `factorize` would leave of the same lists; where 2n is above, the values stay. The preconditioner is renewed where there is no whole factor.
use Rattle.std.specs.Prelude.{ℕ, ◌*◌, ◌≤◌, ◌<◌, ◌≡◌, true, ◌⊎◌, length, drop, Float, Ok, Err}
use Rattle.law.specs.declared.refusal.Refusal.{Refusal}
use Rattle.law.specs.Limit.{particles}
use Rattle.law.specs.Room.{enough}
use Rattle.law.specs.Promise.{Promise}
use Rattle.matrix_shape.specs.Rows.{at}
use Rattle.matrix_shape.specs.Given.{pattern_room, formed}
use Rattle.plan_fits.specs.Given.{factor_length}
use Rattle.plan_fits.specs.Cells.{Cell}
use Rattle.factor_load.specs.Permuted.{Matrix}
use Rattle.factor_make.specs.Factored as outcome
use Rattle.factor_make.specs.Entry.{Finished, Ended, Cholesky}
use Rattle.gradient_doors.specs.Updating.{inverses_room}
use Rattle.step_solve.specs.Marking.{In, Out, for_factor, renewed, mark_of, door}
use Rattle.step_solve.specs.declared.Marked.TheVariants.{Direct, Failed, Iterative}
use Rattle.factor_cholesky.specs.Factorize as factor
use Rattle.factor_cholesky.specs.Factorize.{matrix_in, entries_in}

-- what the call tests, each refusal turned round
pub record Accepted (i : In) : Type 0 where
  pub few : i.n ≤ particles
  pub held : enough true (pattern_room i.n i.row_offsets i.cols i.diagonal) ≡ true
  pub room : enough true (inverses_room i.n i.row_offsets i.blocks i.preconditioner) ≡ true
  pub well : formed i.n i.row_offsets i.cols i.diagonal ≡ true
  -- the plan and the values only where they count: all that `factorize` asks
  pub planned : 2 * i.n ≤ i.max_dense_dofs → factor.Accepted (for_factor i)

-- the caller's matrix in the caller's order, and what the caller's list of values holds in the envelope
abbrev pub step_matrix : In → Matrix
step_matrix i = matrix_in (for_factor i)

abbrev pub step_entries : In → Out → Matrix
step_entries i o = entries_in (for_factor i) o.values

-- the preconditioner as `update_preconditioner` leaves it
abbrev pub Renewed : In → Out → Type 0
Renewed i o = o.preconditioner ≡ renewed i.n i.diagonal i.blocks i.preconditioner

-- what a call leaves, whatever it answered
pub record Leaves (i : In) (o : Out) : Type 0 where
  -- Direct: Cholesky's factor, every row of it finished; the preconditioner stays
  pub direct : o.answer ≡ Ok Direct → Finished (2 * i.n) (at i.first) (step_matrix i) (step_entries i o)
  pub spared : o.answer ≡ Ok Direct → o.preconditioner ≡ i.preconditioner
  -- Failed: it ended at row r, the first whose pivot, d, isn't above zero, and the preconditioner is renewed
  pub failed : (r : ℕ) (d : Float) → o.answer ≡ Ok (Failed r d) → Ended (2 * i.n) (at i.first) (step_matrix i) (step_entries i o) r d
  pub renews : (r : ℕ) (d : Float) → o.answer ≡ Ok (Failed r d) → Renewed i o
  -- Iterative: no factor, so the values stay
  pub iterative : o.answer ≡ Ok Iterative → (o.values ≡ i.values) × Renewed i o
  -- Refused: both lists as they were
  pub refused : (k : Refusal) → o.answer ≡ Err k → (o.values ≡ i.values) × (o.preconditioner ≡ i.preconditioner)
  -- past the factor's length the values always are
  pub rest : drop (factor_length i.n i.row_start) o.values ≡ drop (factor_length i.n i.row_start) i.values
  pub long : length o.values ≡ length i.values

abbrev pub LeavesCholesky : Type 0
LeavesCholesky = (i : In) (o : Out) → Promise door i o → Leaves i o

-- it has answered by the factor, whole or not
abbrev pub ByFactor : Out → Type 0
ByFactor o = (o.answer ≡ Ok Direct) ⊎ ((r : ℕ) × ((d : Float) × (o.answer ≡ Ok (Failed r d))))

-- which answer is given where, both ways
pub record Answers (i : In) (o : Out) : Type 0 where
  pub factors : Accepted i → 2 * i.n ≤ i.max_dense_dofs → ByFactor o
  pub factored : ByFactor o → Accepted i × (2 * i.n ≤ i.max_dense_dofs)
  pub iterates : Accepted i → i.max_dense_dofs < 2 * i.n → o.answer ≡ Ok Iterative
  pub iterated : o.answer ≡ Ok Iterative → Accepted i × (i.max_dense_dofs < 2 * i.n)

abbrev pub AnsweredExactly : Type 0
AnsweredExactly = (i : In) (o : Out) → Promise door i o → Answers i o

-- and nothing else is Cholesky's factor
abbrev pub OneFactor : Type 0
OneFactor =
    (i : In) (o : Out) → Promise door i o → Accepted i → 2 * i.n ≤ i.max_dense_dofs → (l : Matrix) (h : outcome.Factored)
    → Cholesky (2 * i.n) (at i.first) (step_matrix i) l h
    → (o.answer ≡ mark_of (Ok h)) × ((r c : ℕ) → Cell (2 * i.n) (at i.first) r c → step_entries i o r c ≡ l r c)
