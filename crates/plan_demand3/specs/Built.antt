-- DEMAND 3 OF EVERY PATTERN THAT IS BUILT FROM PAIRS: `pattern_from_pairs` was handed b and left c, and `plan`
-- is handed the very lists that it left, with any lists p for the plan and w for the work that have room.
-- Nothing but 7 refuses that call, and what it leaves is said of the given pairs themselves.
use Rattle.std.specs.Prelude.{ℕ, ◌≤◌, ◌<◌, ◌≡◌, true, ◌⊎◌, Ok, Err}
use Rattle.law.specs.Limit.{envelope}
use Rattle.law.specs.declared.refusal.Refusal.TheVariants.{LongEnvelope}
use Rattle.law.specs.Room.{enough}
use Rattle.law.specs.Promise.{Promise}
use Rattle.matrix_shape.specs.Rows.{at}
use Rattle.matrix_shape.specs.Given.{formed}
use Rattle.matrix_shape.specs.Shape.{shape}
use Rattle.matrix_pairs.specs.Pairs.{Together}
use Rattle.matrix_building.specs.Building as building
use Rattle.matrix_building.specs.FromPairs as frompairs
use Rattle.order_demand3.specs.Demand.{Demand3}
use Rattle.plan_make.specs.Plan.{Plan}
use Rattle.plan_make.specs.Parts.{Work}
use Rattle.plan_doors.specs.Planning.{In, Out, given, planning_room, length_for, door}
use Rattle.plan_demand3.specs.Door.{Blocks, Leaves}

abbrev pub handed : building.In → building.Out → Plan → Work → In
handed b c p w = given (shape b.n c.row_offsets c.cols c.diagonal) p w

pub record OfPairs (b : building.In) (c : building.Out) (p : Plan) (w : Work) (o : Out) : Type 0 where
  -- the test that accepts patterns accepts what was built
  pub well : formed b.n c.row_offsets c.cols c.diagonal ≡ true
  -- it stores just the blocks of particles that the pairs bring together
  pub stored : (r q : ℕ) → r < b.n → (Blocks (handed b c p w) r q → Together b.pairs b.count r q)
      × (Together b.pairs b.count r q → Blocks (handed b c p w) r q)
  -- the call answers the envelope's length, or 7 where that is above 16,384
  pub answer : ((length_for (handed b c p w) ≤ envelope) × (o.answer ≡ Ok (length_for (handed b c p w))))
      ⊎ ((envelope < length_for (handed b c p w)) × (o.answer ≡ Err LongEnvelope))
  -- where it answers a length, all that is said of the door
  pub leaves : (len : ℕ) → o.answer ≡ Ok len → Leaves (handed b c p w) o len
  -- AND DEMAND 3 OVER THE PAIRS: a link leads from a particle to itself, or to one that a given pair joins it with
  pub demand : (len : ℕ) → o.answer ≡ Ok len → Demand3 b.n (Together b.pairs b.count) (at o.plan.order) (at o.plan.first)
      (at o.plan.rows)

abbrev pub OfPatternFromPairs : Type 0
OfPatternFromPairs =
    (b : building.In) (c : building.Out) → Promise building.door b c → (blocks : ℕ) → c.answer ≡ Ok blocks
    → (p : Plan) (w : Work) → enough true (planning_room b.n p w) ≡ true → (o : Out) → Promise door (handed b c p w) o → OfPairs b c p w o

-- the same of `from_pairs`, which leaves block values besides
abbrev pub OfFromPairs : Type 0
OfFromPairs =
    (b : frompairs.In) (c : frompairs.Out) → Promise frompairs.door b c → (blocks : ℕ) → c.pattern.answer ≡ Ok blocks
    → (p : Plan) (w : Work) → enough true (planning_room b.pattern.n p w) ≡ true → (o : Out) → Promise door (handed b.pattern c.pattern p w)
    o → OfPairs b.pattern c.pattern p w o
