-- THE DOOR `solve`: x solves the system whose factor the values are, as they stand. No pattern is received, so the plan is tested by its other rules.
use Rattle.std.specs.Prelude.{ℕ, ◌*◌, ◌≤◌, ◌≡◌, true, List, [], ◌∷◌, ◌++◌, leb, length, drop, Float, Ok, Err}
use Rattle.std.proofs.Common.{ap, arith, leb-true}
use Rattle.law.specs.Limit.{particles, envelope}
use Rattle.law.specs.Mix.{mix}
use Rattle.law.specs.declared.refusal.Refusal.TheVariants.{TooManyParticles, ShortBuffer, BadPlan, LongEnvelope}
use Rattle.law.specs.Room.{Room, enough}
use Rattle.law.proofs.Room.{enough_is}
use Rattle.law.specs.Refusal.{Test, Verdict, unless, Rising, verdict}
use Rattle.law.proofs.Refusals.{all_pass}
use Rattle.law.specs.Promise.{Door}
use Rattle.law.specs.Said.{Said}
use Rattle.plane.specs.Plane.{zero_of}
use Rattle.matrix_shape.specs.Rows.{at}
use Rattle.plan_fits.specs.Fits.{plan_rules_ok}
use Rattle.plan_fits.specs.Lists.{Plan}
use Rattle.plan_fits.proofs.Lists.{plan_of}
use Rattle.plan_fits.specs.Given.{plan_room, factor_length, laid}
use Rattle.plan_fits.specs.Layout.{Layout}
use Rattle.factor_substitution.specs.Solve as substitution
use Rattle.factor_substitution.specs.Solve.{solve_of, solved_of}
use Rattle.factor_doors.specs.Said.{solved_said}

pub record In : Type 0 where
  pub n : ℕ
  pub perm : List ℕ
  pub inv_perm : List ℕ
  pub first : List ℕ
  pub row_start : List ℕ
  pub values : List Float
  pub b : List Float
  pub x : List Float
  pub scratch : List Float

pub record Out : Type 0 where
  pub answer : Verdict
  pub said : Said
  pub x : List Float
  pub scratch : List Float

abbrev pub given : ℕ → Layout → List Float → List Float → List Float → List Float → In
given n l values b x scratch =
    record { n = n; perm = l.perm; inv_perm = l.inv_perm; first = l.first; row_start = l.row_start; values = values; b = b; x = x; scratch = scratch }

abbrev pub left : Verdict → List Float → List Float → Out
left r x scratch = record { answer = r; said = solved_said r; x = x; scratch = scratch }

-- what values and vectors need, and what they have
unfoldable pub values_room : ℕ → List ℕ → List Float → List Float → List Float → List Float → Room
values_room n starts values b x scratch = (factor_length n starts, length values) ∷ (2 * n, length b) ∷ (2 * n, length x) ∷ (2 * n, length scratch) ∷ []

-- THE REFUSALS
unfoldable pub refusals : In → List Test
refusals i =
    unless TooManyParticles (leb i.n particles)
    ∷ unless ShortBuffer (enough true (plan_room i.n i.perm i.inv_perm i.first i.row_start))
    ∷ unless ShortBuffer (enough true (values_room i.n i.row_start i.values i.b i.x i.scratch))
    ∷ unless BadPlan (plan_rules_ok i.n (at i.perm) (at i.inv_perm) (at i.first) (at i.row_start))
    ∷ unless LongEnvelope (leb (factor_length i.n i.row_start) envelope)
    ∷ []

pub in_order : (i : In) → Rising 1 (refusals i)
unfolding refusals
in_order i = (omega arith, (omega arith, (omega arith, (omega arith, (omega arith, tt)))))

-- the solution over x's front, zeros over the scratch's
unfoldable pub work : In → Out
work i =
    left (Ok tt)
    (solve_of i.n (at i.perm) (at i.inv_perm) (at i.first) (at i.row_start) i.values i.b ++ drop (2 * i.n) i.x)
    (mix 2 i.n (λ k. zero_of) i.scratch)

abbrev pub door : Door In Out
door = record { tests = refusals; in_order = in_order; work = work; refuse = λ k i. left (Err k) i.x i.scratch }

-- what the work requires
pub record Ready (i : In) : Type 0 where
  pub plan : Plan i.n i.perm i.inv_perm i.first i.row_start
  pub values : at i.row_start (2 * i.n) ≤ length i.values
  pub b : 2 * i.n ≤ length i.b
  pub x : 2 * i.n ≤ length i.x
  pub scratch : 2 * i.n ≤ length i.scratch

pub ready : (i : In) → Ok tt ≡ verdict (refusals i) → Ready i
unfolding refusals values_room factor_length
ready i h =
    let p = all_pass (refusals i) h in
    let e = enough_is true (values_room i.n i.row_start i.values i.b i.x i.scratch) p.1.1.0 in
    record {
      plan = plan_of i.n i.perm i.inv_perm i.first i.row_start (laid i.n i.perm i.inv_perm i.first i.row_start
          (leb-true _ _ p.0) p.1.0) p.1.1.1.0;
      values = e.0;
      b = e.1.0;
      x = e.1.1.0;
      scratch = e.1.1.1.0;
    }

-- the work on the fronts of x and scratch, u and v being what it left there, seen as a whole
pub whole_is : (i : In) (u v : List Float) → substitution.left u v ≡ solved_of i.n (at i.perm) (at i.inv_perm) (at i.first)
    (at i.row_start) i.values i.b
    → left (Ok tt) (u ++ drop (2 * i.n) i.x) (v ++ drop (2 * i.n) i.scratch) ≡ work i
unfolding work solved_of
whole_is i u v e = ap (λ (t : substitution.Left). left (Ok tt) (t.x ++ drop (2 * i.n) i.x) (t.scratch ++ drop (2 * i.n) i.scratch)) e
