-- THE PLAN AND THE FACTOR count only where 2n is at most max_dense_dofs: elsewhere they are neither needed nor tested, and no number is given for them.
use Rattle.std.specs.Prelude.{ℕ, ◌*◌, ◌≤◌, ◌≡◌, Bool, false, cond, ◌&&◌, List, [], ◌∷◌, ◌++◌, leb, length, Float, Ok, Err}
use Rattle.std.proofs.Common.{sym, ◌∙◌}
use Rattle.std.proofs.Math.Bool.{true}
use native.Mathlib.Omega.{arith}
use borrow.Author.Tests.{leb-true}
use Rattle.law.specs.Limit.{particles, envelope}
use Rattle.law.specs.Mix.{mix}
use Rattle.law.specs.declared.refusal.Refusal.TheVariants.{BadPattern, BadPlan, LongEnvelope, BadSettings}
use Rattle.law.specs.Room.{enough}
use Rattle.law.specs.Truth.{both}
use Rattle.law.specs.declared.refusal.Refusal.{Refusal}
use Rattle.law.specs.Refusal.{Test, Verdict, unless, verdict, Rising, when}
use Rattle.law.proofs.Refusals.{decides_early, decides_late, when_is}
use Rattle.plane.specs.Plane.{zero_of}
use Rattle.matrix_shape.specs.Rows.{at}
use Rattle.matrix_shape.specs.Given.{pattern_room, formed}
use Rattle.plan_fits.specs.Fits.{plan_rules_ok, fits_ok}
use Rattle.plan_fits.specs.Lists.{Laid, Plan}
use Rattle.plan_fits.proofs.Lists.{plan_of}
use Rattle.plan_fits.specs.Given.{plan_room, factor_length, laid}
use Rattle.gradient_refusals.specs.Settings.{settings_ok}
use Rattle.gradient_doors.specs.Solving.{vectors_room}
use Rattle.gradient_doors.specs.Solving as G
use Rattle.matrix_shape.specs.Shape.{Shape}
use Rattle.plan_fits.specs.Layout.{Layout}
use Rattle.step_routes.specs.System.{Sys, is_dense}

-- the first 2 * n places become zeros
abbrev pub cleared : ℕ → List Float → List Float
cleared n l = mix 2 n (λ k. zero_of) l

-- the scratch is a work buffer only where the plan counts
unfoldable pub swept : Bool → ℕ → List Float → List Float
swept d n l = cond d (cleared n l) l

-- the plan's lists have room, and so has its factor
unfoldable pub plan_held : ℕ → List ℕ → List ℕ → List ℕ → List ℕ → List Float → Bool
plan_held n order inverse first starts values = enough true (plan_room n order inverse first starts) && leb (factor_length n starts) (length values)

-- the lists of a step solve have room; the scratch is asked for only where the plan counts
unfoldable pub step_held : Bool → ℕ → List ℕ → List ℕ → List ℕ → List Float → List ℕ → List ℕ → List ℕ → List ℕ → List Float → List Float → List Float
    → List Float → List Float → List Float → List Float → List Float → List Float → Bool
step_held d n starts cols diagonal blocks order inverse first begins values preconditioner b x scratch residual direction a_direction z =
    (enough true (pattern_room n starts cols diagonal) && enough true (vectors_room n starts blocks preconditioner b x residual direction a_direction z))
    && (when d (plan_held n order inverse first begins values) && when d (leb (2 * n) (length scratch)))

-- the refusals for pattern and plan; d says whether the plan counts
unfoldable pub structural : Bool → ℕ → List ℕ → List ℕ → List ℕ → List ℕ → List ℕ → List ℕ → List ℕ → List Test
structural d n starts cols diagonal order inverse first begins =
    unless BadPattern (formed n starts cols diagonal)
    ∷ unless BadPlan (when d (fits_ok n (at starts) (at cols) (at order) (at inverse) (at first) (at begins)))
    ∷ unless LongEnvelope (when d (leb (factor_length n begins) envelope))
    ∷ []

-- the refusals that every step solve ends with: those, and the settings'
unfoldable pub later : Bool → ℕ → List ℕ → List ℕ → List ℕ → List ℕ → List ℕ → List ℕ → List ℕ → Float → ℕ → List Test
later d n starts cols diagonal order inverse first begins tolerance limit = structural d n starts cols diagonal order inverse first begins
    ++ (unless BadSettings (settings_ok tolerance limit) ∷ [])

-- what the tests of pattern and plan require
pub record Roomy (d : Bool) (n : ℕ) (starts cols diagonal order inverse first begins : List ℕ) : Type 0 where
  pub few : n ≤ particles
  pub room : enough true (pattern_room n starts cols diagonal) ≡ true
  pub laid : d ≡ true → Laid n order inverse first begins

-- ---- the same of a pattern, a plan and a system lent together

abbrev pub held_plan : ℕ → Layout → List Float → Bool
held_plan n l values = plan_held n l.perm l.inv_perm l.first l.row_start values

abbrev pub fitting : Shape → Layout → Bool
fitting s l = fits_ok s.n (at s.row_offsets) (at s.cols) (at l.perm) (at l.inv_perm) (at l.first) (at l.row_start)

abbrev pub structural_of : Bool → Shape → Layout → List Test
structural_of d s l = structural d s.n s.row_offsets s.cols s.diagonal l.perm l.inv_perm l.first l.row_start

abbrev pub IsRoomy : Bool → Shape → Layout → Type 0
IsRoomy d s l = Roomy d s.n s.row_offsets s.cols s.diagonal l.perm l.inv_perm l.first l.row_start

abbrev pub system_held : Sys → List Float → List Float → List Float → List Float → List Float → List Float → List Float → Bool
system_held s b x scratch residual direction a_direction z =
    step_held (is_dense s) s.shape.n s.shape.row_offsets s.shape.cols s.shape.diagonal s.blocks s.layout.perm s.layout.inv_perm s.layout.first
    s.layout.row_start s.values s.preconditioner b x scratch residual direction a_direction z

abbrev pub later_of : Sys → List Test
later_of s =
    later (is_dense s) s.shape.n s.shape.row_offsets s.shape.cols s.shape.diagonal s.layout.perm s.layout.inv_perm s.layout.first s.layout.row_start
    s.tolerance s.max_iterations

abbrev pub IsRoomySystem : Sys → Type 0
IsRoomySystem s = IsRoomy (is_dense s) s.shape s.layout

-- the iteration on a system
abbrev pub for_gradient : Sys → List Float → List Float → List Float → List Float → List Float → List Float → G.In
for_gradient s b x residual direction a_direction z =
    G.given s.shape s.blocks s.preconditioner b s.tolerance s.max_iterations x residual direction a_direction z

-- ---- what the tests say, once they have passed

module _ (n : ℕ) (order inverse first starts : List ℕ) (values : List Float) where
  pub held_laid : n ≤ particles → plan_held n order inverse first starts values ≡ true → Laid n order inverse first starts
  unfolding plan_held
  held_laid l h = laid n order inverse first starts l (both _ _ h).0

  pub held_values : plan_held n order inverse first starts values ≡ true → factor_length n starts ≤ length values
  unfolding plan_held
  held_values h = leb-true _ _ (both (enough true (plan_room n order inverse first starts)) _ h).1

  -- the same of the tests as they are made
  pub when_laid : (d : Bool) → n ≤ particles → when d (plan_held n order inverse first starts values) ≡ true → d ≡ true → Laid n order inverse first starts
  when_laid d l h e = held_laid l (when_is d _ h e)

  pub plan_held_lem : (t c : List ℕ) → n ≤ particles → plan_held n order inverse first starts values ≡ true → fits_ok n (at t) (at c) (at order)
      (at inverse) (at first) (at starts) ≡ true
      → Plan n order inverse first starts
  unfolding fits_ok
  plan_held_lem t c l h f = plan_of n order inverse first starts (held_laid l h) (both (plan_rules_ok n (at order) (at inverse) (at first) (at starts)) _ f).0

module _ (d : Bool) (n : ℕ) (starts cols diagonal : List ℕ) (blocks : List Float) (order inverse first begins : List ℕ)
    (values preconditioner b x scratch residual direction a_direction z : List Float) where
  pub step_held_lem : step_held d n starts cols diagonal blocks order inverse first begins values preconditioner b x scratch residual direction a_direction
      z ≡ true
      → (enough true (pattern_room n starts cols diagonal) ≡ true)
      × (enough true (vectors_room n starts blocks preconditioner b x residual direction a_direction z) ≡ true)
      × (when d (plan_held n order inverse first begins values) ≡ true) × (when d (leb (2 * n) (length scratch)) ≡ true)
  unfolding step_held
  step_held_lem h =
      let p = both (enough true (pattern_room n starts cols diagonal) && enough true (vectors_room n starts blocks preconditioner b x residual direction
      a_direction z)) _ h in
      let q = both (enough true (pattern_room n starts cols diagonal)) _ p.0 in
      let r = both (when d (plan_held n order inverse first begins values)) _ p.1 in
      (q.0, q.1, r.0, r.1)

  pub roomy : n ≤ particles → step_held d n starts cols diagonal blocks order inverse first begins values preconditioner b x scratch residual direction
      a_direction z ≡ true
      → Roomy d n starts cols diagonal order inverse first begins
  roomy l h = record { few = l; room = (step_held_lem h).0; laid = when_laid n order inverse first begins values d l (step_held_lem h).2 }

-- ---- the two parts of a step solve's last tests, the first part come to an end

module _ (d : Bool) (n : ℕ) (starts cols diagonal order inverse first begins : List ℕ) (tolerance : Float) (limit : ℕ) where
  rising : Rising 1 (structural d n starts cols diagonal order inverse first begins)
  unfolding structural
  rising = (omega arith, (omega arith, (omega arith, tt)))

  pub ends_early : (k : Refusal) → Err k ≡ verdict (structural d n starts cols diagonal order inverse first begins)
      → Err k ≡ verdict (later d n starts cols diagonal order inverse first begins tolerance limit)
  unfolding later
  ends_early k e = decides_early _ _ k (sym e)

  pub by_settings : (r : Verdict) → Ok tt ≡ verdict (structural d n starts cols diagonal order inverse first begins)
      → r ≡ verdict (unless BadSettings (settings_ok tolerance limit) ∷ [])
      → r ≡ verdict (later d n starts cols diagonal order inverse first begins tolerance limit)
  unfolding later
  by_settings r e g = g ∙ decides_late _ _ e

-- ---- the scratch as the code leaves it

pub sweeps : (d : Bool) (n : ℕ) (l m : List Float) → d ≡ true → m ≡ cleared n l → m ≡ swept d n l
unfolding swept
sweeps d n l m t e = rw t e

pub spares : (d : Bool) (n : ℕ) (l : List Float) → d ≡ false → l ≡ swept d n l
unfolding swept
spares d n l t = rw t
