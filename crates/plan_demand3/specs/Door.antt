-- DEMAND 3 OF WHAT THE PLAN'S DOOR LEAVES. The call `plan` was handed i and came to o: o.answer is what it answered,
-- o.plan the caller's four lists as they then stand. `at l k` is what stands at place k of the list l.
use Rattle.std.specs.Prelude.{ℕ, ◌*◌, ◌≤◌, ◌≡◌, true, Ok}
use Rattle.law.specs.Limit.{particles, envelope}
use Rattle.law.specs.Room.{enough}
use Rattle.law.specs.Promise.{Promise}
use Rattle.matrix_shape.specs.Formed.{Stored}
use Rattle.matrix_shape.specs.Rows.{at}
use Rattle.matrix_shape.specs.Given.{pattern_room, formed}
use Rattle.order_demand3.specs.Demand.{Demand3}
use Rattle.plan_fits.specs.Fits.{fits_ok}
use Rattle.plan_fits.specs.Lists.{Laid}
use Rattle.plan_doors.specs.Planning.{In, Out, planning_room, length_for, door}

-- what the call tests, each refusal turned round
pub record Accepted (i : In) : Type 0 where
  -- 1: at most 1,024 particles
  pub few : i.n ≤ particles
  -- 3: the pattern's lists have the places that it fills, and so have the lists for the plan and for the work
  pub held : enough true (pattern_room i.n i.row_offsets i.cols i.diagonal) ≡ true
  pub room : enough true (planning_room i.n i.plan i.work) ≡ true
  -- 5: the pattern is well formed, by the very test that accepts patterns
  pub well : formed i.n i.row_offsets i.cols i.diagonal ≡ true
  -- 7: the envelope has at most 16,384 entries
  pub short : length_for i ≤ envelope

-- the blocks that the caller's lists store
abbrev pub Blocks : In → ℕ → ℕ → Type 0
Blocks i = Stored (at i.row_offsets) (at i.cols)

-- what a call that answered len leaves
pub record Leaves (i : In) (o : Out) (len : ℕ) : Type 0 where
  -- the caller's lists have the places that are spoken of
  pub laid : Laid i.n o.plan.order o.plan.inverse o.plan.first o.plan.rows
  -- DEMAND 3 of what stands in them, over the blocks that the caller's own lists store
  pub demand : Demand3 i.n (Blocks i) (at o.plan.order) (at o.plan.first) (at o.plan.rows)
  -- the answer is the envelope's end
  pub ends : at o.plan.rows (2 * i.n) ≡ len
  -- they pass the test of plans
  pub fits : fits_ok i.n (at i.row_offsets) (at i.cols) (at o.plan.order) (at o.plan.inverse) (at o.plan.first)
      (at o.plan.rows) ≡ true

-- NO PARTICLE DROPS OUT: so it is after every call that answered a length
abbrev pub NoParticleDropsOut : Type 0
NoParticleDropsOut = (i : In) (o : Out) → Promise door i o → (len : ℕ) → o.answer ≡ Ok len → Leaves i o len

-- and a call answers a length exactly where its tests pass
abbrev pub AnsweredExactly : Type 0
AnsweredExactly = (i : In) (o : Out) → Promise door i o → (Accepted i → o.answer ≡ Ok (length_for i)) × ((len : ℕ) → o.answer ≡ Ok len → Accepted i)
