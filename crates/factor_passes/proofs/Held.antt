-- What follows of specs/Held.antt: its theorems, apart from the definitions.
use Rattle.std.specs.Prelude.{ℕ, ◌+◌, ◌-◌, ◌*◌, ◌≤◌, ◌<◌, ◌≡◌, List, length, get_or, set, Float}
use Rattle.std.proofs.Common.{◌∙◌}
use native.Mathlib.Omega.{arith}
use Rattle.std.specs.Float.{nan}
use borrow.Author.Tests.{lt-ltb, le-ltb}
use Rattle.law.proofs.Loop.{over_shift}
use Rattle.plane.specs.Plane.{◌⊖◌, ◌⊘◌, zero32}
use Rattle.flat_runs.specs.Run.{run_step, dot_run, take_step, take_run}
use Rattle.matrix_shape.specs.Rows.{at}
use Rattle.plan_fits.specs.Cells.{drawn_of, held, corner, look}
use Rattle.plan_fits.specs.Lists.{Plan}
use Rattle.factor_passes.specs.Passes.{sum_step, row_sum, forward_by, taken_step, taken_of, back_step}
use Rattle.factor_passes.specs.Held.{Held, Row}

pub held_of : {n : ℕ} {order inverse first starts : List ℕ} {values : List Float} → Plan n order inverse first starts
    → at starts (2 * n) ≤ length values → Held (2 * n) first starts values
held_of p room = record { drawn = drawn_of p; room = room }

pub row_of : {m : ℕ} {first starts : List ℕ} {values : List Float} → Held m first starts values → (i : ℕ) → i < m → Row first starts values i
row_of w i l = record {
  has_first = omega (arith, w.drawn.firsts);
  has_start = omega (arith, w.drawn.begins);
  low = w.drawn.skyline.low i l;
  last = omega (arith, held w.drawn.skyline (corner w.drawn.skyline i l), w.room);
}

module _ (f s : ℕ → ℕ) (v : List Float) (i : ℕ) where
  pub sum_run : (y : List Float) → dot_run v (s i) y (f i) (i - f i) ≡ row_sum f (look f s v) y i
  unfolding dot_run row_sum
  sum_run y =
      over_shift (run_step v (s i) y (f i)) (sum_step (look f s v) y i) (f i) i zero32
      (λ c t l. let e : (f i + c) - f i ≡ c = omega arith in rw e)

  pub take_run_lem : (x : Float) (y : List Float) → take_run v (s i) (f i) (i - f i) x y ≡ taken_of f (look f s v) i x y
  unfolding take_run taken_of
  take_run_lem x y =
      over_shift (take_step v (s i) (f i) x) (taken_step (look f s v) i x) (f i) i y
      (λ c t l. let e : (f i + c) - f i ≡ c = omega arith in rw e)

-- ---- row i's turn as the code has it: `from` and `start` are what it read

module _ (first starts : List ℕ) (v y : List Float) (i from start : ℕ) (a : from ≡ at first i) (b : start ≡ at starts i) where
  pub forward_bare : i ≤ from → get_or y i nan ⊘ get_or v (start + (i - from)) nan ≡ forward_by (at first) (look (at first) (at starts) v) y (get_or y i nan) i
  unfolding forward_by
  forward_bare h = rw (b, a, le-ltb _ _ (rw a at h))

  pub forward_less : from < i → (get_or y i nan ⊖ dot_run v start y from (i - from)) ⊘ get_or v (start + (i - from)) nan ≡ forward_by (at first)
      (look (at first) (at starts) v) y (get_or y i nan) i
  unfolding forward_by
  forward_less h = rw (b, a, lt-ltb _ _ (rw a at h), sum_run (at first) (at starts) v i y)

  pub back_turn : (x : Float) (z : List Float) → x ≡ get_or y i nan ⊘ get_or v (start + (i - from)) nan → z ≡ take_run v start from (i - from) x
      (set y i x) → z ≡ back_step (at first) (look (at first) (at starts) v) i y
  unfolding back_step
  back_turn x z e q = q ∙ rw (e, b, a, take_run_lem (at first) (at starts) v i)
