-- A STEP SOLVE, with both routes: what it is handed, its refusals, and what it answers and leaves. Mark, factor and preconditioner are taken as they stand.
use Rattle.std.specs.Prelude.{ℕ, ◌*◌, ◌≡◌, Bool, true, false, cond, ◌&&◌, List, ◌∷◌, leb, length, Float, Result, Ok, Err}
use Rattle.std.proofs.Common.{ap, sym, arith, leb-true}
use Rattle.law.specs.Limit.{particles}
use Rattle.law.specs.declared.refusal.Refusal.{Refusal}
use Rattle.law.specs.declared.refusal.Refusal.TheVariants.{TooManyParticles, ShortBuffer}
use Rattle.law.specs.Refusal.{Test, Verdict, unless, Rising, verdict}
use Rattle.law.proofs.Refusals.{all_pass, none_fails, when_is}
use Rattle.law.specs.Promise.{Door}
use Rattle.law.specs.Said.{Said}
use Rattle.matrix_shape.specs.Shape.{shape}
use Rattle.plan_fits.specs.Given.{factor_length}
use Rattle.plan_fits.specs.Layout.{layout}
use Rattle.step_routes.specs.System.{Sys, system}
use Rattle.gradient_definition.specs.declared.Outcome.{Outcome}
use Rattle.factor_doors.specs.Solving as D
use Rattle.gradient_doors.specs.Solving as G
use Rattle.step_solve.specs.declared.Stepped.{Stepped}
use Rattle.step_solve.specs.declared.Stepped.TheVariants.{Direct, Iterated}
use Rattle.step_solve.specs.Said.{stepped_said}
use Rattle.step_routes.specs.Dense.{cleared, swept, step_held, structural, later, held_values, plan_held_lem, step_held_lem}

pub record In : Type 0 where
  pub n : ℕ
  pub row_offsets : List ℕ
  pub cols : List ℕ
  pub diagonal : List ℕ
  pub blocks : List Float
  pub perm : List ℕ
  pub inv_perm : List ℕ
  pub first : List ℕ
  pub row_start : List ℕ
  pub values : List Float
  pub factored : Bool
  pub preconditioner : List Float
  pub b : List Float
  pub tolerance : Float
  pub max_iterations : ℕ
  pub max_dense_dofs : ℕ
  pub x : List Float
  pub scratch : List Float
  pub residual : List Float
  pub direction : List Float
  pub a_direction : List Float
  pub z : List Float

pub record Out : Type 0 where
  pub answer : Result Stepped Refusal
  pub said : Said
  pub x : List Float
  pub scratch : List Float
  pub residual : List Float
  pub direction : List Float
  pub a_direction : List Float
  pub z : List Float

abbrev pub given : Sys → List Float → List Float → List Float → List Float → List Float → List Float → List Float → In
given s b x scratch residual direction a_direction z = record {
  n = s.shape.n;
  row_offsets = s.shape.row_offsets;
  cols = s.shape.cols;
  diagonal = s.shape.diagonal;
  blocks = s.blocks;
  perm = s.layout.perm;
  inv_perm = s.layout.inv_perm;
  first = s.layout.first;
  row_start = s.layout.row_start;
  values = s.values;
  factored = s.factored;
  preconditioner = s.preconditioner;
  b = b;
  tolerance = s.tolerance;
  max_iterations = s.max_iterations;
  max_dense_dofs = s.max_dense_dofs;
  x = x;
  scratch = scratch;
  residual = residual;
  direction = direction;
  a_direction = a_direction;
  z = z;
}

-- the system of what it is handed
abbrev pub handed_system : In → Sys
handed_system i =
    system (shape i.n i.row_offsets i.cols i.diagonal) i.blocks (layout i.perm i.inv_perm i.first i.row_start) i.values i.factored i.preconditioner
    i.tolerance i.max_iterations i.max_dense_dofs

abbrev pub left : Result Stepped Refusal → List Float → List Float → List Float → List Float → List Float → List Float → Out
left r x scratch residual direction a_direction z = record {
  answer = r;
  said = stepped_said r;
  x = x;
  scratch = scratch;
  residual = residual;
  direction = direction;
  a_direction = a_direction;
  z = z;
}

-- whether the plan and the factor count
abbrev pub dense : In → Bool
dense i = leb (2 * i.n) i.max_dense_dofs

-- what the direct route is handed; and the iterative one, with this x
abbrev pub for_direct : In → D.In
for_direct i = D.given i.n (layout i.perm i.inv_perm i.first i.row_start) i.values i.b i.x i.scratch

abbrev pub for_iterative : In → List Float → G.In
for_iterative i x = G.given (shape i.n i.row_offsets i.cols i.diagonal) i.blocks i.preconditioner i.b i.tolerance i.max_iterations x
    i.residual i.direction i.a_direction i.z

-- THE REFUSALS: the plan's and the factor's only where they count, the settings' on either route
unfoldable pub refusals : In → List Test
refusals i =
    unless TooManyParticles (leb i.n particles)
    ∷ unless ShortBuffer (step_held (dense i) i.n i.row_offsets i.cols i.diagonal i.blocks i.perm i.inv_perm i.first
    i.row_start i.values i.preconditioner i.b i.x i.scratch i.residual i.direction i.a_direction i.z)
    ∷ later (dense i) i.n i.row_offsets i.cols i.diagonal i.perm i.inv_perm i.first i.row_start i.tolerance i.max_iterations

pub in_order : (i : In) → Rising 1 (refusals i)
unfolding refusals later structural
in_order i = (omega arith, (omega arith, (omega arith, (omega arith, (omega arith, (omega arith, tt))))))

-- THE WORK. By the factor, with the work buffers of the other route zeroed
unfoldable pub directly : In → Out
directly i =
    let d = D.work (for_direct i) in
    left (Ok Direct) d.x d.scratch (cleared i.n i.residual) (cleared i.n i.direction) (cleared i.n i.a_direction) (cleared i.n i.z)

abbrev pub answer_of : Result Outcome Refusal → Result Stepped Refusal
answer_of (Err k) = Err k
answer_of (Ok o) = Ok (Iterated o)

abbrev pub after : G.Out → List Float → Out
after g scratch = left (answer_of g.answer) g.x scratch g.residual g.direction g.a_direction g.z

-- x is zeroed and iterated
unfoldable pub iteratively : In → Out
iteratively i = after (G.work (for_iterative i (cleared i.n i.x))) (swept (dense i) i.n i.scratch)

unfoldable pub work : In → Out
work i = cond (dense i && i.factored) (directly i) (iteratively i)

-- a refusal changes nothing
abbrev pub door : Door In Out
door = record {
  tests = refusals;
  in_order = in_order;
  work = work;
  refuse = λ k i. left (Err k) i.x i.scratch i.residual i.direction
      i.a_direction i.z;
}

-- ---- what the work requires

pub record Ready (i : In) : Type 0 where
  pub iterable : G.Ready (for_iterative i i.x)
  pub planned : dense i ≡ true → D.Ready (for_direct i)

pub ready : (i : In) → Ok tt ≡ verdict (refusals i) → Ready i
unfolding refusals later structural G.refusals factor_length
ready i h =
    let p = all_pass (refusals i) h in
    let q = step_held_lem (dense i) i.n i.row_offsets i.cols i.diagonal i.blocks i.perm i.inv_perm i.first i.row_start
    i.values i.preconditioner i.b i.x i.scratch i.residual i.direction i.a_direction i.z p.1.0 in
    let l = p.1.1 in
    let g = G.ready (for_iterative i i.x) (sym (none_fails (G.refusals (for_iterative i i.x)) (p.0, (q.0, (q.1, (l.0, (l.1.1.1.0, tt))))))) in
    record {
      iterable = g;
      planned = λ d.
          let t = when_is (dense i) _ q.2 d in
          record {
            plan = plan_held_lem i.n i.perm i.inv_perm i.first i.row_start i.values i.row_offsets i.cols g.few t
                (when_is (dense i) _ l.1.0 d);
            values = held_values i.n i.perm i.inv_perm i.first i.row_start i.values t;
            b = g.b;
            x = g.x;
            scratch = leb-true _ _ (when_is (dense i) _ q.3 d);
          };
    }

-- ---- the two routes' ends

pub directed : (i : In) (s : Verdict) (x w r d a z : List Float) → (dense i && i.factored) ≡ true → D.left s x w ≡ D.work (for_direct i)
    → (r ≡ cleared i.n i.residual) × (d ≡ cleared i.n i.direction) × (a ≡ cleared i.n i.a_direction) × (z ≡ cleared i.n i.z)
    → left (Ok Direct) x w r d a z ≡ work i
unfolding work directly
directed i s x w r d a z t e f =
    let front : x ≡ (D.work (for_direct i)).x = ap (λ (o : D.Out). o.x) e in
    let rest : w ≡ (D.work (for_direct i)).scratch = ap (λ (o : D.Out). o.scratch) e in
    rw (front, rest, f.0, f.1, f.2, f.3, t)

pub iterated : (i : In) (o : Outcome) (x w r d a z : List Float) → (dense i && i.factored) ≡ false → G.left (Ok o) x r d a z ≡ G.work
    (for_iterative i (cleared i.n i.x))
    → w ≡ swept (dense i) i.n i.scratch → left (Ok (Iterated o)) x w r d a z ≡ work i
unfolding work iteratively
iterated i o x w r d a z t e f = rw (t, f) (ap (λ (g : G.Out). after g (swept (dense i) i.n i.scratch)) e)

-- the work asks nothing of b but its length
pub ready_for : (i : In) (b : List Float) → length b ≡ length i.b → Ready i
    → Ready (given (handed_system i) b i.x i.scratch i.residual i.direction i.a_direction i.z)
ready_for i b e r =
    let g = r.iterable in
    record {
      iterable = record {
        few = g.few;
        matrix = g.matrix;
        preconditioner = g.preconditioner;
        b = omega (arith, g.b);
        x = g.x;
        residual = g.residual;
        direction = g.direction;
        a_direction = g.a_direction;
        z = g.z;
      };
      planned = λ d. let p = r.planned d in record { plan = p.plan; values = p.values; b = omega (arith, g.b); x = p.x; scratch = p.scratch };
    }
