-- The definition's solve is Zero, Near or the finish of the method's trace, and nothing else is. Assumes nothing.
use Prim.Native.Nat.{ℕ}
use mathlib.Core.Path.{◌≡◌, refl, ap, ◌∙◌}
use mathlib.Core.Bool.{Bool, true, false, cond}
use mathlib.Core.List.{List}
use mathlib.Core.Logic.{inl, inr}
use lib.Ieee.{Float, le, eq}
use Rattle.plane.specs.Plane.{zero32}
use Rattle.gradient_definition.specs.declared.Outcome.TheVariants.{Zero, Near}
use Rattle.gradient_definition.specs.Vectors.{Map, zeros}
use Rattle.gradient_definition.specs.Solve.{Ended, ended, run, finished, fresh_of, launched, started, solved}
use Rattle.gradient_definition.proofs.Rescale.{finish_is, one_finish}
use Rattle.gradient_textbook.specs.Method.{Method}
use Rattle.gradient_textbook.specs.Trace.{norm, held, size, threshold_of, Solve}
use Rattle.gradient_textbook.proofs.Run.{run_is, one_trace}

module _ {n : ℕ} {A P : Map} {b start : List Float} (m : Method n A P b start) (tolerance : Float) (limit : ℕ) where
  -- the run's end, before its finish
  abbrev unfinished : Ended
  unfinished = run n A P (threshold_of m tolerance) limit 0 (norm m 0) (held m 0)

  -- the definition's solve, by the tests
  solve_so : solved n A P b tolerance limit start ≡ cond (eq (size m) zero32) (ended (Zero 0) (zeros n))
      (cond (le (norm m 0) (threshold_of m tolerance)) (ended (Near 0 (norm m 0)) start) (finished n A b unfinished))
  unfolding solved started launched fresh_of
  solve_so = rw (← m.x_first, ← m.r_first, ← m.z_is 0, ← m.d_first)

  pub solve_is : Solve m tolerance limit (solved n A P b tolerance limit start)
  solve_is = rw solve_so (cases (eq (size m) zero32) refl (le (norm m 0) (threshold_of m tolerance)) refl)
    where
      cases : (s : Bool) → eq (size m) zero32 ≡ s → (t : Bool) → le (norm m 0) (threshold_of m tolerance) ≡ t
          → Solve m tolerance limit (cond s (ended (Zero 0) (zeros n)) (cond t (ended (Near 0 (norm m 0)) start) (finished n A b unfinished)))
      cases true p t q = inl (record { none = p; is = refl })
      cases false p true q = inr (inl (record { some = p; within = q; is = refl }))
      cases false p false q = inr (inr (record {
        some = p;
        beyond = q;
        before = unfinished;
        trace = run_is m (threshold_of m tolerance) limit;
        finish = finish_is n A b unfinished;
      }))

  pub one_solve : (e : Ended) → Solve m tolerance limit e → e ≡ solved n A P b tolerance limit start
  one_solve e (inl a) = rw (solve_so, a.none) a.is
  one_solve e (inr (inl a)) = rw (solve_so, a.some, a.within) a.is
  one_solve e (inr (inr a)) =
      let same = one_trace m (threshold_of m tolerance) limit a.before unfinished a.trace (run_is m (threshold_of m tolerance) limit) in
      rw (solve_so, a.some, a.beyond) (one_finish n A b a.before e a.finish ∙ ap (finished n A b) same)
