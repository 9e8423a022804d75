-- THE TRACE: where a run that takes the method's turns one by one ends, how, and with what. The finish comes after it, and is said apart.
use Rattle.std.specs.Prelude.{ℕ, ◌+◌, ◌≤◌, ◌<◌, ◌≡◌, true, false, List, ◌⊎◌, ◌↔◌, Float}
use Rattle.std.specs.Float.Ieee.{lt, le, eq}
use Rattle.plane.specs.Plane.{◌⊗◌, zero32}
use Rattle.vectors.specs.Whole.{dot_all}
use Rattle.gradient_definition.specs.declared.Outcome.TheVariants.{Zero, Near, Converged, Curvature, Limit}
use Rattle.gradient_definition.specs.Vectors.{Map, zeros}
use Rattle.gradient_definition.specs.Solve.{State, Ended, state, ended, run, solved}
use Rattle.gradient_definition.specs.Rescale.{Finished}
use Rattle.gradient_textbook.specs.Method.{Method}

module _ {n : ℕ} {A P : Map} {b start : List Float} (m : Method n A P b start) where
  -- |r(k)|², and d(k)·A d(k)
  abbrev pub norm : ℕ → Float
  norm k = dot_all n (m.r k) (m.r k)

  abbrev pub curvature : ℕ → Float
  curvature k = dot_all n (m.d k) (A (m.d k))

  -- r(k)·z(k), and what the definition holds after k turns
  abbrev pub rz : ℕ → Float
  rz k = dot_all n (m.r k) (m.z k)

  abbrev pub held : ℕ → State
  held k = state (m.x k) (m.r k) (m.d k) (rz k)

  -- |b|², and the threshold that a tolerance makes of it
  abbrev pub size : Float
  size = dot_all n b b

  abbrev pub threshold_of : Float → Float
  threshold_of tolerance = tolerance ⊗ tolerance ⊗ size

  -- ---- THE RUN

  -- turn k ends nothing: its curvature is above zero, and the residual that it leaves isn't within the threshold
  abbrev pub Passes : Float → ℕ → Type 0
  Passes threshold k = (lt zero32 (curvature k) ≡ true) × (le (norm (k + 1)) threshold ≡ false)

  -- the limit is reached, and is the count
  pub record AtLimit (limit k : ℕ) (e : Ended) : Type 0 where
    pub last : k ≡ limit
    pub is : e ≡ ended (Limit k (norm k)) (m.x k)

  -- the curvature isn't above zero: the turn isn't made, nor counted
  pub record AtCurvature (limit k : ℕ) (e : Ended) : Type 0 where
    pub allowed : k < limit
    pub bent : lt zero32 (curvature k) ≡ false
    pub is : e ≡ ended (Curvature k (norm k) (curvature k)) (m.x k)

  -- the residual after the turn is within the threshold: the turn is counted
  pub record AtConverged (threshold : Float) (limit k : ℕ) (e : Ended) : Type 0 where
    pub allowed : k < limit
    pub above : lt zero32 (curvature k) ≡ true
    pub within : le (norm (k + 1)) threshold ≡ true
    pub is : e ≡ ended (Converged (k + 1) (norm (k + 1))) (m.x (k + 1))

  abbrev pub EndsAt : Float → ℕ → ℕ → Ended → Type 0
  EndsAt threshold limit k e = AtLimit limit k e ⊎ (AtCurvature limit k e ⊎ AtConverged threshold limit k e)

  -- some turns end nothing, and after them it ends
  pub record Trace (threshold : Float) (limit : ℕ) (e : Ended) : Type 0 where
    pub turns : ℕ
    pub allowed : turns ≤ limit
    pub passes : (j : ℕ) → j < turns → Passes threshold j
    pub ends : EndsAt threshold limit turns e

  -- ---- THE SOLVE: Zero, Near, or the finish of the run

  pub record IsZero (e : Ended) : Type 0 where
    pub none : eq size zero32 ≡ true
    pub is : e ≡ ended (Zero 0) (zeros n)

  pub record IsNear (tolerance : Float) (e : Ended) : Type 0 where
    pub some : eq size zero32 ≡ false
    pub within : le (norm 0) (threshold_of tolerance) ≡ true
    pub is : e ≡ ended (Near 0 (norm 0)) start

  pub record IsRun (tolerance : Float) (limit : ℕ) (e : Ended) : Type 0 where
    pub some : eq size zero32 ≡ false
    pub beyond : le (norm 0) (threshold_of tolerance) ≡ false
    pub before : Ended
    pub trace : Trace (threshold_of tolerance) limit before
    pub finish : Finished n A b before e

  abbrev pub Solve : Float → ℕ → Ended → Type 0
  Solve tolerance limit e = IsZero e ⊎ (IsNear tolerance e ⊎ IsRun tolerance limit e)

-- ---- WHAT IS CLAIMED, in both directions: the definition's run is the trace, and its solve the solve

abbrev pub RunIsTrace : Type 0
RunIsTrace =
    (n : ℕ) (A P : Map) (b start : List Float) (m : Method n A P b start) (threshold : Float) (limit : ℕ) (e : Ended)
    → Trace m threshold limit e ↔ (e ≡ run n A P threshold limit 0 (norm m 0) (held m 0))

abbrev pub SolveIsTrace : Type 0
SolveIsTrace =
    (n : ℕ) (A P : Map) (b start : List Float) (m : Method n A P b start) (tolerance : Float) (limit : ℕ) (e : Ended)
    → Solve m tolerance limit e ↔ (e ≡ solved n A P b tolerance limit start)
