-- The definition's run is the method's trace, and nothing else is. Assumes nothing.
use Prim.Native.Nat.{ℕ, zero, suc, ◌+◌, ◌≤◌, ◌<◌}
use native.Mathlib.Omega.{arith}
use mathlib.Core.Path.{◌≡◌, refl, sym, ap, ◌∙◌}
use mathlib.Core.Bool.{Bool, true, false, true≢false, cond}
use mathlib.Core.List.{List}
use mathlib.Core.Logic.{inl, inr}
use lib.Dec.{ltb, eqb}
use lib.Ieee.{Float, lt, le}
use borrow.Author.Tests.{ltb-true, ltb-false, eq-eqb, ne_eqb}
use Rattle.plane.specs.Plane.{zero32}
use Rattle.gradient_definition.specs.declared.Turned.TheVariants.{Bent, Done, Onward}
use Rattle.gradient_definition.specs.declared.Outcome.TheVariants.{Converged, Curvature, Limit}
use Rattle.gradient_definition.specs.Vectors.{Map}
use Rattle.gradient_definition.specs.Solve.{Ended, after, ended, turn, run}
use Rattle.gradient_textbook.specs.Method.{Method}
use Rattle.gradient_textbook.specs.Trace.{norm, curvature, rz, held, Passes, EndsAt, Trace}

module _ {n : ℕ} {A P : Map} {b start : List Float} (m : Method n A P b start) (threshold : Float) where
  -- ---- one turn, by its three ends

  turn_bends : (k : ℕ) → lt zero32 (curvature m k) ≡ false → turn n A P threshold (held m k) ≡ after (Bent (curvature m k)) (m.x k) (m.r k) (m.d k)
  unfolding turn
  turn_bends k t = rw t

  turn_converges : (k : ℕ) → lt zero32 (curvature m k) ≡ true → le (norm m (k + 1)) threshold ≡ true
      → turn n A P threshold (held m k) ≡ after (Done (norm m (k + 1))) (m.x (k + 1)) (m.r (k + 1)) (m.d k)
  unfolding turn
  turn_converges k t u = rw (← m.alpha_is k, ← m.x_next k, ← m.r_next k, t, u)

  turn_passes : (k : ℕ) → Passes m threshold k
      → turn n A P threshold (held m k) ≡ after (Onward (norm m (k + 1)) (rz m (k + 1))) (m.x (k + 1)) (m.r (k + 1)) (m.d (k + 1))
  unfolding turn
  turn_passes k h =
      rw (← m.alpha_is k, ← m.x_next k, ← m.r_next k, ← m.z_is (k + 1), ← m.beta_is k, ← m.d_next k, h.0, h.1)

  -- ---- the run from turn k

  module _ (left k : ℕ) (last : Float) where
    run_bends : lt zero32 (curvature m k) ≡ false → run n A P threshold (suc left) k last (held m k) ≡ ended (Curvature k last (curvature m k)) (m.x k)
    unfolding run
    run_bends t = rw (turn_bends k t)

    run_converges : lt zero32 (curvature m k) ≡ true → le (norm m (k + 1)) threshold ≡ true
        → run n A P threshold (suc left) k last (held m k) ≡ ended (Converged (k + 1) (norm m (k + 1))) (m.x (k + 1))
    unfolding run
    run_converges t u = rw (turn_converges k t u)

    run_passes : Passes m threshold k
        → run n A P threshold (suc left) k last (held m k) ≡ run n A P threshold left (k + 1) (norm m (k + 1)) (held m (k + 1))
    unfolding run
    run_passes h = rw (turn_passes k h)

  module _ (limit : ℕ) where
    run_turn : (left k : ℕ) → k < limit → ((j : ℕ) → j < k → Passes m threshold j)
        → (Passes m threshold k → Trace m threshold limit (run n A P threshold left (k + 1) (norm m (k + 1)) (held m (k + 1))))
        → Trace m threshold limit (run n A P threshold (suc left) k (norm m k) (held m k))
    run_turn left k less h more = cases (lt zero32 (curvature m k)) refl (le (norm m (k + 1)) threshold) refl
      where
        cases : (s : Bool) → lt zero32 (curvature m k) ≡ s → (t : Bool) → le (norm m (k + 1)) threshold ≡ t
            → Trace m threshold limit (run n A P threshold (suc left) k (norm m k) (held m k))
        cases false p t q = record {
          turns = k;
          allowed = omega arith;
          passes = h;
          ends = inr (inl (record { allowed = less; bent = p; is = run_bends left k (norm m k) p }));
        }
        cases true p true q = record {
          turns = k;
          allowed = omega arith;
          passes = h;
          ends = inr (inr (record { allowed = less; above = p; within = q; is = run_converges left k (norm m k) p q }));
        }
        cases true p false q = rw (run_passes left k (norm m k) (p, q)) (more (p, q))

    passes_more : (k : ℕ) → ((j : ℕ) → j < k → Passes m threshold j) → Passes m threshold k → (j : ℕ) → j < k + 1 → Passes m threshold j
    passes_more k h p j l = by (ltb j k) refl
      where
        by : (t : Bool) → ltb j k ≡ t → Passes m threshold j
        by true e = h j (ltb-true j k e)
        by false e = let same : k ≡ j = omega (arith, ltb-false j k e) in rw same at p

    run_from : (left k : ℕ) → k + left ≡ limit → ((j : ℕ) → j < k → Passes m threshold j)
        → Trace m threshold limit (run n A P threshold left k (norm m k) (held m k))
    unfolding run
    run_from zero k e h = record { turns = k; allowed = omega arith; passes = h; ends = inl (record { last = omega arith; is = refl }) }
    run_from (suc left) k e h = run_turn left k (omega arith) h (λ p. run_from left (k + 1) (omega arith) (passes_more k h p))

    pub run_is : Trace m threshold limit (run n A P threshold limit 0 (norm m 0) (held m 0))
    run_is = run_from limit 0 (omega arith) (λ j l. absurd (omega arith))

    -- ---- nothing else is: a trace ends once

    stops : (j k : ℕ) (e : Ended) → EndsAt m threshold limit k e → k < j → j ≤ limit → Passes m threshold k → ⊥
    stops j k e (inl a) l g h = omega (arith, a.last)
    stops j k e (inr (inl a)) l g h = true≢false (sym h.0 ∙ a.bent)
    stops j k e (inr (inr a)) l g h = true≢false (sym a.within ∙ h.1)

    -- where the run ends at k, by the tests
    end_at : ℕ → Ended
    end_at k =
        cond (eqb k limit) (ended (Limit k (norm m k)) (m.x k))
        (cond (lt zero32 (curvature m k)) (ended (Converged (k + 1) (norm m (k + 1))) (m.x (k + 1)))
        (ended (Curvature k (norm m k) (curvature m k)) (m.x k)))

    ends_so : (k : ℕ) (e : Ended) → EndsAt m threshold limit k e → e ≡ end_at k
    unfolding end_at
    ends_so k e (inl a) = rw (eq-eqb k limit a.last) a.is
    ends_so k e (inr (inl a)) = rw (ne_eqb k limit (λ q. omega (arith, a.allowed)), a.bent) a.is
    ends_so k e (inr (inr a)) = rw (ne_eqb k limit (λ q. omega (arith, a.allowed)), a.above) a.is

    pub one_trace : (e f : Ended) → Trace m threshold limit e → Trace m threshold limit f → e ≡ f
    one_trace e f s t = by (ltb s.turns t.turns) refl (ltb t.turns s.turns) refl
      where
        by : (p : Bool) → ltb s.turns t.turns ≡ p → (q : Bool) → ltb t.turns s.turns ≡ q → e ≡ f
        by true p q r = absurd (stops t.turns s.turns e s.ends (ltb-true _ _ p) t.allowed (t.passes s.turns (ltb-true _ _ p)))
        by false p true r = absurd (stops s.turns t.turns f t.ends (ltb-true _ _ r) s.allowed (s.passes t.turns (ltb-true _ _ r)))
        by false p false r =
            let same : s.turns ≡ t.turns = omega (arith, ltb-false s.turns t.turns p, ltb-false t.turns s.turns r) in
            ends_so s.turns e s.ends ∙ ap end_at same ∙ sym (ends_so t.turns f t.ends)
