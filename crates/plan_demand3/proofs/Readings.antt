-- The reading n=4, pair 0-2 (RULES.md § 11), through both doors, computed: so the theorems have something to speak of. Assumes nothing.
use mathlib.Core.Path.{◌≡◌, refl, ap}
use mathlib.Core.Bool.{true}
use mathlib.Core.List.{[], ◌∷◌}
use lib.ListN.{replicate}
use Rattle.std.specs.Prelude.{Ok}
use Rattle.law.specs.Loop.{fold, over}
use Rattle.law.specs.Every.{every, some}
use Rattle.law.specs.Gather.{gather, up_to}
use Rattle.law.specs.Room.{enough}
use Rattle.law.specs.Refusal.{verdict}
use Rattle.law.specs.Promise.{outcome}
use Rattle.law.proofs.Promise.{some_outcome}
use Rattle.matrix_shape.specs.Formed.{slot_ok, home_ok, row_ok, stored, mirrors_ok, starts_ok, well_formed}
use Rattle.matrix_shape.specs.Rows.{at}
use Rattle.matrix_shape.specs.Made.{row_of, cols_of, start_of, slot_of, starts_of, slots_of}
use Rattle.matrix_shape.specs.Given.{pattern_room, formed}
use Rattle.matrix_pairs.specs.Pairs.{joined, stored_by, Together}
use Rattle.matrix_build.specs.Build.{built_of}
use Rattle.matrix_building.specs.Building as building
use Rattle.matrix_building.specs.Building.{lists_room, refusals as buildRefusals, work as buildWork}
use Rattle.order_definition.specs.Order.{neighbours, reach, settle, choose_start, fresh, placing, order_of}
use Rattle.order_definition.specs.Envelope.{first_block, first_col, row_starts}
use Rattle.order_demand3.specs.Demand.{Demand3}
use Rattle.plan_make.specs.Plan.{Plan, four, plan_by, plan_of, envelope_length}
use Rattle.plan_make.specs.Parts.{Work, five}
use Rattle.plan_doors.specs.Planning.{Out, left, planning_room, early, refusals, length_for, laid_over, cleared, work, door}
use Rattle.plan_demand3.specs.Built.{handed}
use Rattle.plan_demand3.proofs.Whole.{of_pattern_from_pairs}

-- lists full of sevens, each a place longer than needed
handed_in : building.In
handed_in = building.given 4 1 (0 ∷ 2 ∷ []) (replicate 6 7) (replicate 7 7) (replicate 5 7) (replicate 3 7)

left_built : building.Out
left_built = outcome building.door handed_in

plan : Plan
plan = four (replicate 5 7) (replicate 5 7) (replicate 9 7) (replicate 10 7)

desk : Work
desk = five (replicate 5 7) (replicate 5 7) (replicate 5 7) (replicate 5 7) (replicate 5 7)

left_planned : Out
left_planned = outcome door (handed handed_in left_built plan desk)

-- the pattern that is built
built_is : left_built ≡ building.left (Ok 6) (0 ∷ 2 ∷ 3 ∷ 5 ∷ 6 ∷ 7 ∷ []) (0 ∷ 2 ∷ 1 ∷ 0 ∷ 2 ∷ 3 ∷ 7 ∷ []) (0 ∷ 2 ∷ 4 ∷ 5 ∷ 7 ∷ []) (0 ∷ 0 ∷ 7 ∷ [])
unfolding handed_in left_built outcome buildRefusals buildWork verdict enough lists_room every some over fold built_of stored_by joined starts_of slots_of
    cols_of start_of slot_of row_of gather up_to
built_is = refl

room : enough true (planning_room 4 plan desk) ≡ true
unfolding plan desk enough planning_room
room = refl

-- the order 2 0 3 1, its inverse, the rows' first columns and starts, and 16 entries; the sevens behind them stay
plan_is : left_planned ≡ left (Ok 16) (four (2 ∷ 0 ∷ 3 ∷ 1 ∷ 7 ∷ []) (1 ∷ 3 ∷ 0 ∷ 2 ∷ 7 ∷ []) (0 ∷ 0 ∷ 0 ∷ 0 ∷ 4 ∷ 4 ∷ 6 ∷ 6 ∷ 7 ∷ [])
    (0 ∷ 1 ∷ 3 ∷ 6 ∷ 10 ∷ 11 ∷ 13 ∷ 14 ∷ 16 ∷ 7 ∷ []))
    (five (0 ∷ 0 ∷ 0 ∷ 0 ∷ 7 ∷ []) (0 ∷ 0 ∷ 0 ∷ 0 ∷ 7 ∷ []) (0 ∷ 0 ∷ 0 ∷ 0 ∷ 7 ∷ []) (0 ∷ 0 ∷ 0 ∷ 0 ∷ 7 ∷ []) (0 ∷ 0 ∷ 0 ∷ 0 ∷ 7 ∷ []))
unfolding handed_in left_built plan desk left_planned outcome buildRefusals buildWork verdict enough lists_room every some over fold built_of stored_by
    joined starts_of slots_of cols_of start_of slot_of row_of gather up_to planning_room pattern_room early refusals work length_for laid_over cleared formed
    well_formed starts_ok row_ok slot_ok home_ok mirrors_ok stored plan_by plan_of envelope_length order_of placing fresh choose_start settle reach neighbours
    row_starts first_col first_block
plan_is = refl

-- DEMAND 3 of these lists, over the pair 0-2
pub holds : Demand3 4 (Together (0 ∷ 2 ∷ []) 1) (at (2 ∷ 0 ∷ 3 ∷ 1 ∷ 7 ∷ [])) (at (0 ∷ 0 ∷ 0 ∷ 0 ∷ 4 ∷ 4 ∷ 6 ∷ 6 ∷ 7 ∷ []))
    (at (0 ∷ 1 ∷ 3 ∷ 6 ∷ 10 ∷ 11 ∷ 13 ∷ 14 ∷ 16 ∷ 7 ∷ []))
unfolding handed_in left_built left_planned
holds =
    let r = of_pattern_from_pairs handed_in left_built (some_outcome building.door handed_in) 6 (ap (λ (o : building.Out). o.answer) built_is) plan desk
    room left_planned (some_outcome door (handed handed_in left_built plan desk)) in
    rw plan_is at (r.demand 16 (ap (λ (o : Out). o.answer) plan_is))
