-- WHAT COMPUTING THE COLUMNS LEAVES, where nothing is refused. It was handed i and came to o.
use Rattle.std.specs.Prelude.{Result, Ok, Err}
use Rattle.std.specs.Prelude.{ℕ, ◌+◌, ◌*◌, ◌<◌, ◌≡◌, length, drop}
use Rattle.law.specs.Limit.{tally, unloaded}
use Rattle.law.specs.Refusal.{verdict}
use Rattle.law.specs.Promise.{Promise, outcome}
use Rattle.matrix_shape.specs.Rows.{at}
use Rattle.step_tally.specs.declared.Kind.{Kind}
use Rattle.step_tally.specs.declared.Kind.TheVariants.{Refused}
use Rattle.step_tally.specs.Count.{Asked}
use Rattle.std.specs.Prelude.{Some}
use Rattle.step_tally.specs.Runs.{fresh, after}
use Rattle.step_routes.specs.Dense.{cleared, swept}
use Rattle.step_solve.specs.Stepping as S
use Rattle.columns_table.specs.Columns.{column_of, columns_need}
use Rattle.law.specs.declared.refusal.Refusal.{Refusal}
use Rattle.columns_make.specs.declared.Ended.{Ended}
use Rattle.columns_make.specs.Making.{In, Out, dense, refusals, ended_of, door}
use Rattle.columns_meaning.specs.Solution.{solve_for, solved, solution, asked_for, asks}

-- the sum of the answer's six counts
abbrev pub sum_of : Result Ended Refusal → ℕ
sum_of (Err k) = 0
sum_of (Ok e) = e.direct + e.zero + e.near + e.converged + e.curvature + e.limit

-- the particle has a column
abbrev pub Loaded : In → ℕ → Type 0
Loaded i p = (p < i.n) × (at i.column_of p ≡ unloaded → ⊥)

-- each loaded particle's column along each axis is the solution of that axis
abbrev pub ColumnsAre : In → Out → Type 0
ColumnsAre i o = (p k : ℕ) → Loaded i p → k < 2 → column_of i.n o.columns (at i.column_of p) k ≡ solution i p k

-- what stands past the columns is as it was
pub record RestKept (i : In) (o : Out) : Type 0 where
  pub rest : drop (columns_need i.n i.loaded) o.columns ≡ drop (columns_need i.n i.loaded) i.columns
  pub long : length o.columns ≡ length i.columns

-- the work lists' needed parts are zeros, whether any particle is loaded or not, and their rests are as they were
pub record WorkZero (i : In) (o : Out) : Type 0 where
  pub rhs : o.rhs ≡ cleared i.n i.rhs
  pub scratch : o.scratch ≡ swept (dense i) i.n i.scratch
  pub residual : o.residual ≡ cleared i.n i.residual
  pub direction : o.direction ≡ cleared i.n i.direction
  pub a_direction : o.a_direction ≡ cleared i.n i.a_direction
  pub z : o.z ≡ cleared i.n i.z

-- a step solve that was not refused
abbrev pub Ran : Asked → Type 0
Ran a = (k : Kind) × ((a ≡ Some k) × (k ≡ Refused → ⊥))

-- the lent record is counted solve after solve, the cap in between; the answer's six counts are those of the same solves from a fresh record
pub record TallyIs (i : In) (o : Out) : Type 0 where
  pub lent : o.tally ≡ after tally i.tally (asks i)
  pub own : o.answer ≡ Ok (ended_of (after tally fresh (asks i)))
  -- two solves for each loaded particle, none refused; so the six counts' sum is their number
  pub ran : (p k : ℕ) → Ran (asked_for i p k)
  pub many : length (asks i) ≡ 2 * i.loaded
  pub sum : sum_of o.answer ≡ 2 * i.loaded

-- all of it
pub record Leaves (i : In) (o : Out) : Type 0 where
  pub columns : ColumnsAre i o
  pub kept : RestKept i o
  pub work : WorkZero i o
  pub tally : TallyIs i o

abbrev pub ComputeLeaves : Type 0
ComputeLeaves = (i : In) (o : Out) → Promise door i o → verdict (refusals i) ≡ Ok tt → Leaves i o

-- the step solves are the ones that `solve_step` would make of the same lists: its door refuses none of them
abbrev pub SolvesAreCalls : Type 0
SolvesAreCalls = (i : In) → verdict (refusals i) ≡ Ok tt → (p k : ℕ) → outcome S.door (solve_for i p k) ≡ solved i p k
