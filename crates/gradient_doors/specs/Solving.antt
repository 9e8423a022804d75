-- THE DOOR `solve`: the conjugate gradient, with the preconditioner as it stands. What it is handed and refuses is `gradient_refusals`'.
use Rattle.std.specs.Prelude.{ℕ, ◌*◌, ◌≤◌, ◌≡◌, true, List, ◌++◌, length, take, drop, Float, Result, Ok, Err}
use Rattle.std.proofs.Common.{ap, arith, length-take-le, leb-true}
use Rattle.law.specs.Limit.{particles}
use Rattle.law.proofs.Room.{enough_is}
use Rattle.law.specs.declared.refusal.Refusal.{Refusal}
use Rattle.law.specs.Refusal.{verdict}
use Rattle.law.proofs.Refusals.{all_pass}
use Rattle.law.specs.Promise.{Door}
use Rattle.law.specs.Said.{Said}
use Rattle.matrix_shape.specs.Rows.{rows_of}
use Rattle.matrix_shape.specs.Given.{pattern}
use Rattle.matrix_shape.specs.Shape.{shape}
use Rattle.gradient_definition.specs.declared.Outcome.{Outcome}
use Rattle.gradient_definition.specs.Vectors.{Matrix, product, preconditioned, zeros}
use Rattle.gradient_definition.specs.Solve.{Ended, ended, Sized, solved}
use Rattle.gradient_doors.specs.Said.{solved_said}
pub use Rattle.gradient_refusals.specs.Solving.{In, given, in_order}
unfoldable pub use Rattle.gradient_refusals.specs.Solving.{vectors_room, refusals}

pub record Out : Type 0 where
  pub answer : Result Outcome Refusal
  pub said : Said
  pub x : List Float
  pub residual : List Float
  pub direction : List Float
  pub a_direction : List Float
  pub z : List Float

abbrev pub left : Result Outcome Refusal → List Float → List Float → List Float → List Float → List Float → Out
left r x residual direction a_direction z = record {
  answer = r;
  said = solved_said r;
  x = x;
  residual = residual;
  direction = direction;
  a_direction
      = a_direction;
  z = z;
}

-- THE WORK: the solve from x's first 2 * n places; zeros in those of the work buffers; rests as they were
unfoldable pub solve_for : In → Ended
solve_for i =
    solved i.n (product i.n i.row_offsets i.cols i.blocks) (preconditioned i.n i.preconditioner) i.b i.tolerance
    i.max_iterations (take (2 * i.n) i.x)

-- the first 2 * n places of l become v
abbrev pub over : ℕ → List Float → List Float → List Float
over n v l = v ++ drop (2 * n) l

unfoldable pub work : In → Out
work i =
    let e = solve_for i in
    let none = zeros i.n in
    left (Ok e.how) (over i.n e.x i.x) (over i.n none i.residual) (over i.n none i.direction)
    (over i.n none i.a_direction) (over i.n none i.z)

-- a refusal changes nothing
abbrev pub door : Door In Out
door = record {
  tests = refusals;
  in_order = in_order;
  work = work;
  refuse = λ k i. left (Err k) i.x i.residual i.direction
      i.a_direction i.z;
}

-- ---- what the work requires

pub record Ready (i : In) : Type 0 where
  pub few : i.n ≤ particles
  pub matrix : Matrix i.n i.row_offsets i.cols i.blocks
  pub preconditioner : 4 * i.n ≤ length i.preconditioner
  pub b : 2 * i.n ≤ length i.b
  pub x : 2 * i.n ≤ length i.x
  pub residual : 2 * i.n ≤ length i.residual
  pub direction : 2 * i.n ≤ length i.direction
  pub a_direction : 2 * i.n ≤ length i.a_direction
  pub z : 2 * i.n ≤ length i.z

pub ready : (i : In) → Ok tt ≡ verdict (refusals i) → Ready i
unfolding refusals vectors_room
ready i h =
    let p = all_pass (refusals i) h in
    let e = enough_is true (vectors_room i.n i.row_offsets i.blocks i.preconditioner i.b i.x i.residual i.direction
    i.a_direction i.z) p.1.1.0 in
    let few = leb-true _ _ p.0 in
    record {
      few = few;
      matrix = record { rows = rows_of _ _ _ _ (pattern i.n i.row_offsets i.cols i.diagonal few p.1.0 p.1.1.1.0); values = e.0 };
      preconditioner = e.1.0;
      b = e.1.1.0;
      x = e.1.1.1.0;
      residual = e.1.1.1.1.0;
      direction = e.1.1.1.1.1.0;
      a_direction = e.1.1.1.1.1.1.0;
      z = e.1.1.1.1.1.1.1.0;
    }

-- the work asks nothing of x but its length
pub ready_with : (i : In) (x : List Float) → length x ≡ length i.x → Ready i
    → Ready (given (shape i.n i.row_offsets i.cols i.diagonal) i.blocks i.preconditioner i.b i.tolerance i.max_iterations x
    i.residual i.direction i.a_direction i.z)
ready_with i x e g = record {
  few = g.few;
  matrix = g.matrix;
  preconditioner = g.preconditioner;
  b = g.b;
  x = omega (arith, g.x);
  residual = g.residual;
  direction = g.direction;
  a_direction = g.a_direction;
  z = g.z;
}

-- ---- the parts that the solve is done on, and what it leaves of the whole

pub parts_sized : (i : In) → Ready i
    → Sized i.n i.preconditioner (take (2 * i.n) i.x) (take (2 * i.n) i.residual) (take (2 * i.n) i.direction)
    (take (2 * i.n) i.a_direction) (take (2 * i.n) i.z)
parts_sized i r = record {
  preconditioner_has = r.preconditioner;
  x_is = length-take-le _ _ r.x;
  residual_is = length-take-le _ _ r.residual;
  direction_is = length-take-le _ _ r.direction;
  a_direction_is = length-take-le _ _ r.a_direction;
  z_is = length-take-le _ _ r.z;
}

pub whole_is : (i : In) (o : Outcome) (x r d a z : List Float)
    → (ended o x ≡ solved i.n (product i.n i.row_offsets i.cols i.blocks) (preconditioned i.n i.preconditioner) i.b
    i.tolerance i.max_iterations (take (2 * i.n) i.x))
    × (r ≡ zeros i.n) × (d ≡ zeros i.n) × (a ≡ zeros i.n) × (z ≡ zeros i.n)
    → left (Ok o) (over i.n x i.x) (over i.n r i.residual) (over i.n d i.direction) (over i.n a i.a_direction)
    (over i.n z i.z) ≡ work i
unfolding work solve_for
whole_is i o x r d a z h =
    let how : o ≡ (solve_for i).how = ap (λ (t : Ended). t.how) h.0 in
    let last : x ≡ (solve_for i).x = ap (λ (t : Ended). t.x) h.0 in
    rw (how, last, h.1, h.2, h.3, h.4)
