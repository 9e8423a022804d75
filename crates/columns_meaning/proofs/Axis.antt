-- One column is one step solve: the response with one entry, its right-hand side, and what it leaves. Assumes nothing.
use Prim.Native.Nat.{ℕ, ◌+◌, ◌*◌, ◌-◌, ◌<◌}
use native.Mathlib.Omega.{arith}
use mathlib.Core.Path.{◌≡◌, refl, sym, ap, ◌∙◌}
use mathlib.Core.Bool.{Bool, true, false, cond}
use mathlib.Core.List.{List, [], ◌++◌, append-nil}
use lib.Dec.{eqb}
use lib.ListN.{length, drop, length-take}
use lib.Ieee.{Float, of_bits, add}
use borrow.Author.Tests.{eq-eqb}
use Rattle.law.specs.Loop.{over, fold}
use Rattle.law.specs.Every.{some}
use Rattle.law.specs.Store.{written, written_long}
use Rattle.plane.specs.Plane.{Vector, pair, x, y, zero32, one32, zero_of, add_of}
use Rattle.plane.specs.Lent.{vector_at, with_vector}
use Rattle.matrix_shape.specs.Rows.{at}
use Rattle.gradient_definition.specs.Vectors.{zeros}
use Rattle.std.specs.Prelude.{Result, Ok, Err}
use Rattle.law.specs.declared.refusal.Refusal.{Refusal}
use Rattle.step_solve.specs.declared.Stepped.{Stepped}
use Rattle.step_solve.specs.declared.Stepped.TheVariants as steps
use Rattle.step_solve.specs.Stepping as S
use Rattle.step_routes.specs.Dense.{cleared, swept}
use Rattle.step_entries.specs.Entries.{free, any_free, load_step, loaded}
use Rattle.step_tally.specs.Count.{counted_of}
use Rattle.step_response.specs.Responding as R
use Rattle.step_counts.specs.Counting.{asked_of, asked_by}
use Rattle.columns_table.specs.Columns.{start_of, column_of}
use Rattle.columns_make.specs.Making.{In, Held, held, dense, Ready, axis_of, for_axis, after_axis, axis_made}
use Rattle.columns_meaning.specs.Solution.{unit_at, solve_for, solved, solution, asked_for}
use Rattle.columns_meaning.specs.Computed.{Loaded}
use Rattle.columns_meaning.proofs.Parts.{drop_all, written_left, vector_left, mix_vector}
use Rattle.columns_meaning.proofs.Step.{Same, zeros_long, how_of, front_of, front_long, how_same, front_same, work_is}

-- where the plan counts, its order names only the n particles
ordered : (i : In) → Ready i → dense i ≡ true → (q : ℕ) → q < i.n → at i.perm q < i.n
ordered i has d = (has.solvable.planned d).plan.planned.particle

-- ---- lists

-- a column has nothing past its 2 * n places
drop_column : (n : ℕ) (l : List Float) (c k : ℕ) → drop (2 * n) (column_of n l c k) ≡ []
drop_column n l c k =
    drop_all (2 * n) (column_of n l c k) (omega (arith, length-take (start_of n c k + 2 * n - start_of n c k) (drop (start_of n c k) l)))

same_front : (n : ℕ) (l r : List Float) → length l ≡ 2 * n → Same n (l ++ r) l
same_front n l r e q h = vector_left l r q (omega arith)

-- a response is counted as its step solve
asked_as : (t : Result Stepped Refusal) (gain : Float) → asked_by (R.answer_of t gain) ≡ asked_of t
asked_as (Err k) gain = refl
asked_as (Ok steps.Direct) gain = refl
asked_as (Ok (steps.Iterated o)) gain = refl

-- ---- the right-hand side

pub unit_long : (n p k : ℕ) → length (unit_at n p k) ≡ 2 * n
unfolding unit_at
unit_long n p k = written_long (zeros n) (2 * p) _ _ refl ∙ zeros_long n

pub solution_long : (i : In) (p k : ℕ) → length (solution i p k) ≡ 2 * i.n
unfolding solved
solution_long i p k =
    ap (λ (o : S.Out). length o.x) (work_is (solve_for i p k))
    ∙ rw (drop_all (2 * i.n) (zeros i.n) (omega (arith, zeros_long i.n)), append-nil) (front_long (solve_for i p k) (unit_at i.n p k))

module _ (i : In) (p k : ℕ) (s : Held) (has : Ready i) (is : Loaded i p) where
  unpinned : at i.pinned p ≡ 0
  unpinned = has.numbered.unpinned p is.0 is.1

  asks_one : R.asks (for_axis i p k s) ≡ true
  unfolding any_free some over fold free
  asks_one = eq-eqb _ _ unpinned

  -- zeros and the unit vector: 0 + 1 and 0 + 0
  unit_added : (u : Vector) → u ≡ zero_of → add_of u (vector_at (axis_of k) 0) ≡ pair (x (axis_of k)) (y (axis_of k))
  unfolding of_bits add
  unit_added u e = ap (λ (w : Vector). add_of w (vector_at (axis_of k) 0)) e ∙ go (eqb k 0)
    where
      v : Bool → Vector
      v t = cond t (pair one32 zero32) (pair zero32 one32)

      go : (t : Bool) → add_of zero_of (vector_at (v t) 0) ≡ pair (x (v t)) (y (v t))
      go true = refl
      go false = refl

  rhs_is : R.rhs_of (for_axis i p k s) ≡ unit_at i.n p k ++ drop (2 * i.n) s.rhs
  unfolding R.rhs_of loaded over fold load_step free unit_at zeros
  rhs_is =
      let zero-there = mix_vector (λ _. zero_of) (λ j. refl) i.n s.rhs p is.0 in
      rw (eq-eqb _ _ unpinned)
      (ap (λ (v : Vector). with_vector (cleared i.n s.rhs) p v) (unit_added _ zero-there)
      ∙ written_left (zeros i.n) (drop (2 * i.n) s.rhs) (2 * p) (pair (x (axis_of k)) (y (axis_of k))) (omega (arith, zeros_long i.n, is.0)))

  -- ---- the response

  abbrev step : S.In
  step = R.for_step (for_axis i p k s) (R.rhs_of (for_axis i p k s))

  same : Same i.n (R.rhs_of (for_axis i p k s)) (unit_at i.n p k)
  same = rw rhs_is (same_front i.n (unit_at i.n p k) (drop (2 * i.n) s.rhs) (unit_long i.n p k))

  how_is : Ok (how_of step step.b) ≡ (solved i p k).answer
  unfolding solved
  how_is = ap (λ (t : Stepped). Ok t) (how_same step step.b (unit_at i.n p k) same) ∙ sym (ap (λ (o : S.Out). o.answer) (work_is (solve_for i p k)))

  front_is : front_of step step.b ++ drop (2 * i.n) step.x ≡ solution i p k
  unfolding solved
  front_is =
      let e = front_same step step.b (unit_at i.n p k) same (ordered i has) in
      rw (drop_column i.n s.columns (at i.column_of p) k, e)
      (sym (ap (λ (o : S.Out). o.x) (work_is (solve_for i p k)) ∙ rw (drop_all (2 * i.n) (zeros i.n) (omega (arith, zeros_long i.n)))))

  -- the step solve, from what is held
  abbrev stepped : S.Out
  stepped = S.left (solved i p k).answer (solution i p k) (swept (dense i) i.n s.scratch) (cleared i.n s.residual)
      (cleared i.n s.direction) (cleared i.n s.a_direction) (cleared i.n s.z)

  step_is : S.work step ≡ stepped
  step_is = work_is step ∙ rw (how_is, front_is)

  response_is : R.work (for_axis i p k s) ≡ R.after (for_axis i p k s) stepped
  unfolding R.work R.answered
  response_is =
      ap (λ (t : Bool). cond t (R.answered (for_axis i p k s)) (R.idle (for_axis i p k s))) asks_one
      ∙ ap (R.after (for_axis i p k s)) step_is

  -- what is held after it
  abbrev pub after_solve : Held
  after_solve =
      held (written s.columns (start_of i.n (at i.column_of p) k) (solution i p k)) (cleared i.n s.rhs)
      (swept (dense i) i.n s.scratch) (cleared i.n s.residual) (cleared i.n s.direction) (cleared i.n s.a_direction)
      (cleared i.n s.z) (counted_of s.lent (asked_for i p k)) (counted_of s.own (asked_for i p k))

  pub axis_is : axis_made i p k s ≡ after_solve
  unfolding axis_made
  axis_is = ap (after_axis s (start_of i.n (at i.column_of p) k)) response_is ∙ rw (asked_as (solved i p k).answer)
