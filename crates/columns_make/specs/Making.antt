-- THE COLUMNS OF THE LOADED PARTICLES: what computing them is handed, and what it answers and leaves.
-- Particle after particle, rising, axis 0 before axis 1, whatever the columns' numbers are;
-- each is a response with one entry, into the column's part of the buffer.
use Rattle.std.specs.Prelude.{◌≡◌, true, List, Float, Result, Ok, Err, Some}
use Rattle.std.proofs.Common.{sym}
use Rattle.law.specs.Loop.{over}
use Rattle.law.proofs.Room.{enough_is}
use Rattle.law.specs.declared.refusal.Refusal.{Refusal}
use Rattle.law.specs.Refusal.{verdict}
use Rattle.law.proofs.Refusals.{all_pass, none_fails}
use Rattle.law.specs.Promise.{Door, Promise}
use Rattle.law.proofs.Promise.{refuses}
use Rattle.law.specs.Said.{Said}
use Rattle.step_tally.specs.declared.Tally.{Tally}
use Rattle.step_tally.specs.declared.Kind.TheVariants as kinds
use Rattle.step_tally.specs.Count.{counted_of}
use Rattle.step_tally.specs.Runs.{fresh}
use Rattle.step_routes.specs.Dense.{cleared, swept}
use Rattle.step_routes.specs.Dense as routes
use Rattle.step_solve.specs.Stepping as S
use Rattle.columns_table.specs.Test.{numbered_is}
pub use Rattle.columns_axes.specs.Axes.{In, given, handed_system, handed_table, dense, Held, held, axis_of, for_axis, after_axis, for_step, Ready, solvable_for}
unfoldable pub use Rattle.columns_axes.specs.Axes.{axis_made, particle_made}
pub use Rattle.columns_refusals.specs.Refusing.{in_order, unlent}
unfoldable pub use Rattle.columns_refusals.specs.Refusing.{making_room, later, refusals}
use Rattle.columns_make.specs.declared.Ended.{Ended}
use Rattle.columns_make.specs.Said.{computed_said}

pub record Out : Type 0 where
  pub answer : Result Ended Refusal
  pub said : Said
  pub columns : List Float
  pub rhs : List Float
  pub scratch : List Float
  pub residual : List Float
  pub direction : List Float
  pub a_direction : List Float
  pub z : List Float
  pub tally : Tally

abbrev pub left : Result Ended Refusal → List Float → List Float → List Float → List Float → List Float → List Float → List Float → Tally → Out
left r columns rhs scratch residual direction a_direction z tally = record {
  answer = r;
  said = computed_said r;
  columns = columns;
  rhs = rhs;
  scratch = scratch;
  residual = residual;
  direction = direction;
  a_direction = a_direction;
  z = z;
  tally = tally;
}

-- THE WORK. The work lists are zeroed first, so that they are zero where none is loaded
unfoldable pub begun : In → Held
begun i = held i.columns (cleared i.n i.rhs) (swept (dense i) i.n i.scratch) (cleared i.n i.residual)
    (cleared i.n i.direction) (cleared i.n i.a_direction) (cleared i.n i.z) i.tally fresh

unfoldable pub made : In → Held
made i = over (particle_made i) 0 i.n (begun i)

-- how many of the call's own solves ended in each way
abbrev pub ended_of : Tally → Ended
ended_of t = record { direct = t.direct; zero = t.zero; near = t.near; converged = t.converged; curvature = t.curvature; limit = t.limit }

abbrev pub finished : Held → Out
finished s = left (Ok (ended_of s.own)) s.columns s.rhs s.scratch s.residual s.direction s.a_direction s.z s.lent

unfoldable pub work : In → Out
work i = finished (made i)

-- a refusal changes no list, and is one refused call
abbrev pub door : Door In Out
door = record {
  tests = refusals;
  in_order = in_order;
  work = work;
  refuse = λ k i. left (Err k) i.columns i.rhs i.scratch i.residual i.direction i.a_direction i.z
      (counted_of i.tally (Some kinds.Refused));
}

-- ---- a refusal: found without the lent record; t is that record afterwards

pub refused_once : (i : In) (k : Refusal) (t : Tally) → Err k ≡ verdict (refusals (unlent i)) → t ≡ counted_of i.tally (Some kinds.Refused)
    → Promise door i (left (Err k) i.columns i.rhs i.scratch i.residual i.direction i.a_direction i.z t)
unfolding refusals
refused_once i k t e g = rw g (refuses door i k e)

-- ---- what the work requires

pub ready : (i : In) → Ok tt ≡ verdict (refusals i) → Ready i
unfolding refusals later S.refusals routes.later routes.structural making_room
ready i h =
    let p = all_pass (refusals i) h in
    let q = p.1.1 in
    let l = q.1 in
    let e = enough_is true (making_room i.n i.pinned i.loaded i.column_of i.columns) q.0 in
    record {
      solvable = S.ready (for_step i) (sym (none_fails (S.refusals (for_step i)) (p.0, (p.1.0, (l.0, l.1.1)))));
      marks = e.0;
      places = e.1.0;
      room = e.1.1.0;
      numbered = numbered_is i.n i.pinned i.loaded i.column_of l.1.0;
    }
