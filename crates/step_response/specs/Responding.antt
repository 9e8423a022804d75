-- THE RESPONSE to a constraint's entries: what it is handed, its refusals, and what it answers
-- and leaves. It asks for one step solve, or for none where no entry is left.
use Rattle.std.specs.Prelude.{ℕ, ◌*◌, ◌≡◌, Bool, true, false, cond, List, ◌∷◌, leb, Float, Result, Ok, Err}
use Rattle.std.proofs.Common.{ap, sym, ◌∙◌, arith, leb-true}
use Rattle.law.specs.Limit.{particles, entries}
use Rattle.law.specs.declared.refusal.Refusal.{Refusal}
use Rattle.law.specs.declared.refusal.Refusal.TheVariants.{TooManyParticles, TooManyEntries, ShortBuffer, OutOfRange}
use Rattle.law.specs.Room.{enough}
use Rattle.law.specs.Refusal.{Test, unless, Rising, verdict}
use Rattle.law.proofs.Refusals.{all_pass, none_fails}
use Rattle.law.specs.Promise.{Door}
use Rattle.law.specs.Said.{Said}
use Rattle.step_solve.specs.declared.Stepped.{Stepped}
use Rattle.step_solve.specs.declared.Stepped.TheVariants as stepped
use Rattle.step_routes.specs.Dense.{cleared, swept, step_held, structural, later}
use Rattle.matrix_shape.specs.Shape.{shape}
use Rattle.plan_fits.specs.Layout.{layout}
use Rattle.step_routes.specs.System.{Sys, system}
use Rattle.step_entries.specs.Lent.{Entered}
use Rattle.step_solve.specs.Stepping as S
use Rattle.step_response.specs.declared.Responded.{Responded}
use Rattle.step_response.specs.declared.Responded.TheVariants.{Nothing, Direct, Iterated}
use Rattle.step_response.specs.Said.{responded_said}
use Rattle.step_entries.specs.Entries.{entries_room, below, any_free, loaded, raw_gain, gain_of, Entries, entries_of, cleared_again}

pub record In : Type 0 where
  pub n : ℕ
  pub row_offsets : List ℕ
  pub cols : List ℕ
  pub diagonal : List ℕ
  pub blocks : List Float
  pub perm : List ℕ
  pub inv_perm : List ℕ
  pub first : List ℕ
  pub row_start : List ℕ
  pub values : List Float
  pub factored : Bool
  pub preconditioner : List Float
  pub tolerance : Float
  pub max_iterations : ℕ
  pub max_dense_dofs : ℕ
  pub pinned : List ℕ
  pub count : ℕ
  pub particles : List ℕ
  pub gradients : List Float
  pub out : List Float
  pub rhs : List Float
  pub scratch : List Float
  pub residual : List Float
  pub direction : List Float
  pub a_direction : List Float
  pub z : List Float

pub record Out : Type 0 where
  pub answer : Result Responded Refusal
  pub said : Said
  pub out : List Float
  pub rhs : List Float
  pub scratch : List Float
  pub residual : List Float
  pub direction : List Float
  pub a_direction : List Float
  pub z : List Float

abbrev pub given : Sys → List ℕ → Entered → List Float → List Float → List Float → List Float → List Float → List Float → List Float → In
given s pinned e out rhs scratch residual direction a_direction z = record {
  n = s.shape.n;
  row_offsets = s.shape.row_offsets;
  cols = s.shape.cols;
  diagonal = s.shape.diagonal;
  blocks = s.blocks;
  perm = s.layout.perm;
  inv_perm = s.layout.inv_perm;
  first = s.layout.first;
  row_start = s.layout.row_start;
  values = s.values;
  factored = s.factored;
  preconditioner = s.preconditioner;
  tolerance = s.tolerance;
  max_iterations = s.max_iterations;
  max_dense_dofs = s.max_dense_dofs;
  pinned = pinned;
  count = e.count;
  particles = e.particles;
  gradients = e.gradients;
  out = out;
  rhs = rhs;
  scratch = scratch;
  residual = residual;
  direction = direction;
  a_direction = a_direction;
  z = z;
}

-- the system of what it is handed
abbrev pub handed_system : In → Sys
handed_system i =
    system (shape i.n i.row_offsets i.cols i.diagonal) i.blocks (layout i.perm i.inv_perm i.first i.row_start) i.values i.factored i.preconditioner
    i.tolerance i.max_iterations i.max_dense_dofs

abbrev pub left : Result Responded Refusal → List Float → List Float → List Float → List Float → List Float → List Float → List Float → Out
left r out rhs scratch residual direction a_direction z = record {
  answer = r;
  said = responded_said r;
  out = out;
  rhs = rhs;
  scratch = scratch;
  residual = residual;
  direction = direction;
  a_direction = a_direction;
  z = z;
}

-- whether the plan and the factor count
abbrev pub dense : In → Bool
dense i = leb (2 * i.n) i.max_dense_dofs

-- whether an entry is left
abbrev pub asks : In → Bool
asks i = any_free i.pinned i.count i.particles

-- the step solve that is asked for, with this right-hand side
abbrev pub for_step : In → List Float → S.In
for_step i b = S.given (handed_system i) b i.out i.scratch i.residual i.direction i.a_direction i.z

-- THE REFUSALS
unfoldable pub refusals : In → List Test
refusals i =
    unless TooManyParticles (leb i.n particles)
    ∷ unless TooManyEntries (leb i.count entries)
    ∷ unless ShortBuffer (step_held (dense i) i.n i.row_offsets i.cols i.diagonal i.blocks i.perm i.inv_perm i.first
    i.row_start i.values i.preconditioner i.rhs i.out i.scratch i.residual i.direction i.a_direction i.z)
    ∷ unless ShortBuffer (enough true (entries_room i.n i.pinned i.count i.particles i.gradients))
    ∷ unless OutOfRange (below i.n i.count i.particles)
    ∷ later (dense i) i.n i.row_offsets i.cols i.diagonal i.perm i.inv_perm i.first i.row_start i.tolerance i.max_iterations

pub in_order : (i : In) → Rising 1 (refusals i)
unfolding refusals later structural
in_order i = (omega arith, (omega arith, (omega arith, (omega arith, (omega arith, (omega arith, (omega arith, (omega arith, (omega arith, tt)))))))))

-- THE WORK. No entry is left: zeros, and nothing is asked for
unfoldable pub idle : In → Out
idle i =
    left (Ok Nothing) (cleared i.n i.out) (cleared i.n i.rhs) (swept (dense i) i.n i.scratch) (cleared i.n i.residual)
    (cleared i.n i.direction) (cleared i.n i.a_direction) (cleared i.n i.z)

-- the right-hand side: zeros and the entries' gradients
unfoldable pub rhs_of : In → List Float
rhs_of i = loaded i.pinned i.count i.particles i.gradients (cleared i.n i.rhs)

abbrev pub responded_of : Stepped → Float → Responded
responded_of stepped.Direct gain = Direct gain
responded_of (stepped.Iterated o) gain = Iterated gain o

abbrev pub answer_of : Result Stepped Refusal → Float → Result Responded Refusal
answer_of (Err k) gain = Err k
answer_of (Ok s) gain = Ok (responded_of s gain)

-- the gain of what a step solve answered and left
abbrev pub after : In → S.Out → Out
after i s =
    left (answer_of s.answer (gain_of (raw_gain i.pinned i.count i.particles i.gradients s.x))) s.x (cleared i.n i.rhs)
    s.scratch s.residual s.direction s.a_direction s.z

unfoldable pub answered : In → Out
answered i = after i (S.work (for_step i (rhs_of i)))

unfoldable pub work : In → Out
work i = cond (asks i) (answered i) (idle i)

-- a refusal changes nothing
abbrev pub door : Door In Out
door = record {
  tests = refusals;
  in_order = in_order;
  work = work;
  refuse = λ k i. left (Err k) i.out i.rhs i.scratch i.residual
      i.direction i.a_direction i.z;
}

-- ---- what the work requires

pub record Ready (i : In) : Type 0 where
  pub solvable : S.Ready (for_step i i.rhs)
  pub entered : Entries i.n i.pinned i.count i.particles i.gradients

pub ready : (i : In) → Ok tt ≡ verdict (refusals i) → Ready i
unfolding refusals S.refusals later structural
ready i h =
    let p = all_pass (refusals i) h in
    let q = p.1.1 in
    record {
      solvable = S.ready (for_step i i.rhs) (sym (none_fails (S.refusals (for_step i i.rhs)) (p.0, (q.0, q.1.1.1))));
      entered = entries_of i.n i.pinned i.count i.particles i.gradients (leb-true _ _ p.1.0) q.1.0 q.1.1.0;
    }

-- ---- the two ends

pub nothing_left : (i : In) (o h w r d a z : List Float) → asks i ≡ false → o ≡ cleared i.n i.out → h ≡ cleared i.n i.rhs
    → w ≡ swept (dense i) i.n i.scratch
    → (r ≡ cleared i.n i.residual) × (d ≡ cleared i.n i.direction) × (a ≡ cleared i.n i.a_direction) × (z ≡ cleared i.n i.z)
    → left (Ok Nothing) o h w r d a z ≡ work i
unfolding work idle
nothing_left i o h w r d a z t e f g k = rw (t, e, f, g, k.0, k.1, k.2, k.3)

pub is_answered : (i : In) (o : Out) → asks i ≡ true → o ≡ answered i → o ≡ work i
unfolding work
is_answered i o t e = rw t e

-- s is what the step solve answered, b what its right-hand side was, g the raw sum
pub whole_is : (i : In) (s : Result Stepped Refusal) (b x w r d a z : List Float) (g : Float) (h : List Float) → Ready i → b ≡ rhs_of i
    → S.left s x w r d a z ≡ S.work (for_step i b)
    → g ≡ raw_gain i.pinned i.count i.particles i.gradients x → h ≡ cleared i.n b → left (answer_of s (gain_of g)) x h w r d a z ≡ answered i
unfolding answered rhs_of
whole_is i s b x w r d a z g h p e f k l =
    let rest : h ≡ cleared i.n i.rhs = l ∙ ap (cleared i.n) e ∙ cleared_again i.n i.pinned i.count i.particles i.gradients
    p.entered i.rhs in
    rw (k, rest) (ap (after i) (rw e at f))

-- the right-hand side as it is made: m is the buffer once it is zeroed, b once the entries are in it
pub made_of : (i : In) (m b : List Float) → m ≡ cleared i.n i.rhs → b ≡ loaded i.pinned i.count i.particles i.gradients m → b ≡ rhs_of i
unfolding rhs_of
made_of i m b e h = h ∙ ap (loaded i.pinned i.count i.particles i.gradients) e
