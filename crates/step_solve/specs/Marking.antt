-- THE DOOR `factorize_step_matrix`: the factor where the plan counts, and the preconditioner where
-- there is none or it failed. The mark for the step solves is the answer `Direct`.
use Rattle.std.specs.Prelude.{ℕ, ◌*◌, ◌≤◌, ◌≡◌, refl, Bool, true, false, cond, List, ◌∷◌, leb, Float, Result, Ok, Err}
use Rattle.std.proofs.Common.{ap, sym, arith, leb-true}
use Rattle.law.specs.Limit.{particles}
use Rattle.law.specs.Mix.{mix}
use Rattle.law.specs.declared.refusal.Refusal.{Refusal}
use Rattle.law.specs.declared.refusal.Refusal.TheVariants.{TooManyParticles, ShortBuffer}
use Rattle.law.specs.Room.{enough}
use Rattle.law.proofs.Room.{enough_is, enough_of}
use Rattle.law.specs.Truth.{both}
use Rattle.law.specs.Refusal.{Test, unless, Rising, verdict, when}
use Rattle.law.proofs.Refusals.{all_pass, none_fails, when_is}
use Rattle.law.specs.Promise.{Door}
use Rattle.law.specs.Said.{Said}
use Rattle.matrix_shape.specs.Given.{pattern_room}
use Rattle.matrix_shape.specs.Shape.{Shape, shape}
use Rattle.plan_fits.specs.Layout.{Layout, layout}
use Rattle.plan_fits.specs.Given.{plan_room}
use Rattle.gradient_definition.specs.Inverse.{inverse_at}
use Rattle.factor_make.specs.declared.Failed.{Failed}
use Rattle.factor_doors.specs.Factorizing as F
use Rattle.gradient_doors.specs.Updating as U
use Rattle.step_solve.specs.declared.Marked.{Marked}
use Rattle.step_solve.specs.declared.Marked.TheVariants as marks
use Rattle.step_solve.specs.Said.{marked_said}
use Rattle.step_routes.specs.Dense.{plan_held, structural, held_values}

pub record In : Type 0 where
  pub n : ℕ
  pub row_offsets : List ℕ
  pub cols : List ℕ
  pub diagonal : List ℕ
  pub blocks : List Float
  pub perm : List ℕ
  pub inv_perm : List ℕ
  pub first : List ℕ
  pub row_start : List ℕ
  pub max_dense_dofs : ℕ
  pub values : List Float
  pub preconditioner : List Float

pub record Out : Type 0 where
  pub answer : Result Marked Refusal
  pub said : Said
  pub values : List Float
  pub preconditioner : List Float

abbrev pub given : Shape → List Float → Layout → ℕ → List Float → List Float → In
given p blocks l max_dense_dofs values preconditioner = record {
  n = p.n;
  row_offsets = p.row_offsets;
  cols = p.cols;
  diagonal = p.diagonal;
  blocks = blocks;
  perm = l.perm;
  inv_perm = l.inv_perm;
  first = l.first;
  row_start = l.row_start;
  max_dense_dofs = max_dense_dofs;
  values = values;
  preconditioner = preconditioner;
}

abbrev pub left : Result Marked Refusal → List Float → List Float → Out
left r values preconditioner = record { answer = r; said = marked_said r; values = values; preconditioner = preconditioner }

-- whether the plan and the factor count
abbrev pub dense : In → Bool
dense i = leb (2 * i.n) i.max_dense_dofs

abbrev pub for_factor : In → F.In
for_factor i = F.given (shape i.n i.row_offsets i.cols i.diagonal) i.blocks (layout i.perm i.inv_perm i.first i.row_start) i.values

abbrev pub for_update : In → U.In
for_update i = U.given (shape i.n i.row_offsets i.cols i.diagonal) i.blocks i.preconditioner

-- THE REFUSALS
unfoldable pub refusals : In → List Test
refusals i =
    unless TooManyParticles (leb i.n particles)
    ∷ unless ShortBuffer (enough true (pattern_room i.n i.row_offsets i.cols i.diagonal))
    ∷ unless ShortBuffer (enough true (U.inverses_room i.n i.row_offsets i.blocks i.preconditioner))
    ∷ unless ShortBuffer (when (dense i) (plan_held i.n i.perm i.inv_perm i.first i.row_start i.values))
    ∷ structural (dense i) i.n i.row_offsets i.cols i.diagonal i.perm i.inv_perm i.first i.row_start

pub in_order : (i : In) → Rising 1 (refusals i)
unfolding refusals structural
in_order i = (omega arith, (omega arith, (omega arith, (omega arith, (omega arith, (omega arith, (omega arith, tt)))))))

-- THE WORK. The preconditioner, updated
unfoldable pub renewed : ℕ → List ℕ → List Float → List Float → List Float
renewed n diagonal blocks preconditioner = mix 4 n (inverse_at diagonal blocks) preconditioner

-- what a factorization comes to, and the preconditioner after it
abbrev pub mark_of : Result (Result (Unit {0}) Failed) Refusal → Result Marked Refusal
mark_of (Err k) = Err k
mark_of (Ok (Ok _)) = Ok marks.Direct
mark_of (Ok (Err f)) = Ok (marks.Failed f.row f.pivot)

abbrev pub fallback : Result (Result (Unit {0}) Failed) Refusal → List Float → List Float → List Float
fallback (Err k) p q = p
fallback (Ok (Ok _)) p q = p
fallback (Ok (Err f)) p q = q

abbrev pub settled : In → F.Out → Out
settled i f = left (mark_of f.answer) f.values (fallback f.answer i.preconditioner (renewed i.n i.diagonal i.blocks i.preconditioner))

unfoldable pub work : In → Out
work i = cond (dense i) (settled i (F.work (for_factor i))) (left (Ok marks.Iterative) i.values (renewed i.n i.diagonal i.blocks i.preconditioner))

-- a refusal changes nothing
abbrev pub door : Door In Out
door = record { tests = refusals; in_order = in_order; work = work; refuse = λ k i. left (Err k) i.values i.preconditioner }

-- ---- what the work requires

pub record Ready (i : In) : Type 0 where
  pub few : i.n ≤ particles
  pub updatable : U.Ready (for_update i)
  pub planned : dense i ≡ true → F.Ready (for_factor i)

pub ready : (i : In) → Ok tt ≡ verdict (refusals i) → Ready i
unfolding refusals structural U.refusals U.inverses_room F.refusals F.values_room plan_held
ready i h =
    let p = all_pass (refusals i) h in
    let q = p.1.1.1 in
    let e = enough_is true (U.inverses_room i.n i.row_offsets i.blocks i.preconditioner) p.1.1.0 in
    record {
      few = leb-true _ _ p.0;
      updatable = U.ready (for_update i) (sym (none_fails (U.refusals (for_update i)) (p.0, (p.1.0, (p.1.1.0, (q.1.0, tt))))));
      planned = λ d.
          let t = when_is (dense i) _ q.0 d in
          let room = (both (enough true (plan_room i.n i.perm i.inv_perm i.first i.row_start)) _ t).0 in
          let values = enough_of true (F.values_room i.n i.row_offsets i.blocks i.row_start i.values) refl
          (e.0, (held_values i.n i.perm i.inv_perm i.first i.row_start i.values t, tt)) in
          F.ready (for_factor i) (sym (none_fails (F.refusals (for_factor i))
          (p.0, (p.1.0, (room, (values, (q.1.0, (when_is (dense i) _ q.1.1.0 d, (when_is (dense i) _ q.1.1.1.0 d, tt)))))))));
    }

-- ---- the two routes' ends

pub factored : (i : In) (h : Result (Result (Unit {0}) Failed) Refusal) (r : Result Marked Refusal) (v p : List Float) → dense i ≡ true → F.left h v ≡ F.work (for_factor i)
    → (r ≡ mark_of h) × (p ≡ fallback h i.preconditioner (renewed i.n i.diagonal i.blocks i.preconditioner))
    → left r v p ≡ work i
unfolding work
factored i h r v p d e f = rw (d, f.0, f.1) (ap (settled i) e)

pub unfactored : (i : In) (p : List Float) → dense i ≡ false → p ≡ mix 4 i.n (inverse_at i.diagonal i.blocks) i.preconditioner
    → left (Ok marks.Iterative) i.values p ≡ work i
unfolding work renewed
unfactored i p d e = rw (d, e)
