-- What planning's answers say, computed through the door's outcome, for one particle. Assumes nothing.
use Prim.Native.Nat.{ℕ}
use mathlib.Core.Path.{◌≡◌, refl}
use mathlib.Core.List.{List, [], ◌∷◌}
use Rattle.law.specs.Loop.{fold, over}
use Rattle.law.specs.Every.{every, some}
use Rattle.law.specs.Gather.{gather}
use Rattle.law.specs.Room.{enough}
use Rattle.law.specs.Refusal.{verdict}
use Rattle.law.specs.Promise.{outcome}
use Rattle.law.specs.Said.{Said, refused, carries}
use Rattle.matrix_shape.specs.Formed.{slot_ok, home_ok, row_ok, stored, mirrors_ok, starts_ok, well_formed}
use Rattle.matrix_shape.specs.Given.{pattern_room, formed}
use Rattle.matrix_shape.specs.Shape.{shape}
use Rattle.order_definition.specs.Order.{neighbours, reach, settle, choose_start, fresh, placing, order_of}
use Rattle.order_definition.specs.Envelope.{first_block, first_col, row_starts}
use Rattle.plan_make.specs.Plan.{four, plan_by, plan_of, envelope_length}
use Rattle.plan_make.specs.Parts.{five}
use Rattle.plan_doors.specs.Planning.{given, planning_room, length_for, early, refusals, refuse, work, door}

-- the particle's diagonal slot is given
planned : ℕ → Said
planned slot =
    let one : List ℕ = 7 ∷ [] in
    (outcome door (given (shape 1 (0 ∷ 1 ∷ []) (0 ∷ []) (slot ∷ [])) (four one one (7 ∷ 7 ∷ []) (7 ∷ 7 ∷ 7 ∷ [])) (five one one one one one))).said

-- a plan says the envelope's length, a refusal its number
record Readings : Type 0 where
  made : planned 0 ≡ carries 0 (3 ∷ []) []
  not_made : planned 1 ≡ refused 5

readings : Readings
unfolding planned outcome early refusals refuse work length_for planning_room pattern_room verdict enough formed well_formed starts_ok row_ok slot_ok home_ok
    mirrors_ok stored every some envelope_length plan_of plan_by gather over fold order_of placing fresh choose_start settle reach neighbours row_starts
    first_col first_block
readings = record { made = refl; not_made = refl }
