-- The step solve of an axis, in lists of just 2 * n zeros, is one that `solve_step` accepts. Assumes nothing.
use Rattle.std.specs.Prelude.{Ok}
use Prim.Native.Nat.{ℕ, ◌*◌, ◌≤◌}
use native.Mathlib.Omega.{arith}
use mathlib.Core.Path.{◌≡◌, refl, sym, ap}
use mathlib.Core.Bool.{Bool, true, false}
use lib.Dec.{leb}
use lib.ListN.{length}
use borrow.Author.Tests.{le-leb}
use Rattle.law.specs.Truth.{and_true}
use Rattle.law.proofs.Room.{enough_is, enough_of}
use Rattle.law.specs.Refusal.{Verdict, verdict, when}
use Rattle.law.proofs.Refusals.{all_pass, none_fails}
use Rattle.law.specs.Promise.{by, outcome}
use Rattle.gradient_definition.specs.Vectors.{zeros}
use Rattle.gradient_doors.specs.Solving.{vectors_room}
use Rattle.step_routes.specs.Dense.{step_held, structural, later, step_held_lem}
use Rattle.step_solve.specs.Stepping as S
use Rattle.columns_make.specs.Making as M
use Rattle.columns_make.specs.Making.{In, dense, refusals, in_order}
use Rattle.columns_meaning.specs.Solution.{unit_at, solve_for, solved}
use Rattle.columns_meaning.specs.Computed.{SolvesAreCalls}
use Rattle.columns_meaning.proofs.Step.{zeros_long}
use Rattle.columns_meaning.proofs.Axis.{unit_long}

when_of : (d t : Bool) → t ≡ true → when d t ≡ true
unfolding when
when_of true t h = h
when_of false t h = refl

module _ (i : In) (v : verdict (refusals i) ≡ Ok tt) (p k : ℕ) where
  fits : 2 * i.n ≤ length (zeros i.n)
  fits = omega (arith, zeros_long i.n)

  -- the lists that the solve writes have just their room, the others are as they were tested
  held : step_held (dense i) i.n i.row_offsets i.cols i.diagonal i.blocks i.perm i.inv_perm i.first i.row_start i.values
      i.preconditioner (unit_at i.n p k) (zeros i.n) (zeros i.n) (zeros i.n) (zeros i.n) (zeros i.n) (zeros i.n) ≡ true
  unfolding refusals step_held vectors_room
  held =
      let none = zeros i.n in
      let f = all_pass (refusals i) (sym v) in
      let q = step_held_lem (dense i) i.n i.row_offsets i.cols i.diagonal i.blocks i.perm i.inv_perm i.first i.row_start
      i.values i.preconditioner i.rhs i.rhs i.scratch i.residual i.direction i.a_direction i.z f.1.0 in
      let e = enough_is true (vectors_room i.n i.row_offsets i.blocks i.preconditioner i.rhs i.rhs i.residual i.direction
      i.a_direction i.z) q.1 in
      let vectors = enough_of true (vectors_room i.n i.row_offsets i.blocks i.preconditioner (unit_at i.n p k) none none none none none) refl
      (e.0, (e.1.0, (omega (arith, unit_long i.n p k), (fits, (fits, (fits, (fits, (fits, tt)))))))) in
      and_true _ _ (and_true _ _ q.0 vectors) (and_true _ _ q.2 (when_of (dense i) (leb (2 * i.n) (length none)) (le-leb _ _ fits)))

  step_accepted : verdict (S.refusals (solve_for i p k)) ≡ Ok tt
  unfolding refusals M.later S.refusals later structural
  step_accepted =
      let f = all_pass (refusals i) (sym v) in
      let l = f.1.1.1 in
      none_fails (S.refusals (solve_for i p k)) (f.0, (held, (l.0, l.1.1)))

pub solves_are_calls : SolvesAreCalls
unfolding outcome solved
solves_are_calls i v p k = ap (λ (m : Verdict). by m (S.work (solve_for i p k)) (λ j. (S.door).refuse j (solve_for i p k))) (step_accepted i v p k)
