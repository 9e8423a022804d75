-- Demand 3 holds of whatever the plan's door leaves, and of every pattern that is built from pairs. Assumes nothing.
use mathlib.Core.Path.{◌≡◌, refl, sym, ◌∙◌}
use mathlib.Core.Bool.{true}
use mathlib.Core.Logic.{inl, inr, ⊎_elim}
use Rattle.law.specs.Limit.{envelope}
use Rattle.law.specs.Truth.{below_or}
use Rattle.law.specs.Room.{enough}
use Rattle.law.specs.Promise.{Promise}
use Rattle.matrix_building.specs.Building as building
use Rattle.order_demand3.proofs.Carried.{demand_carried}
use Rattle.plan_make.specs.Plan.{Plan}
use Rattle.plan_make.specs.Parts.{Work}
use Rattle.plan_doors.specs.Planning.{Out, planning_room, length_for, door}
use Rattle.plan_demand3.specs.Door.{NoParticleDropsOut, AnsweredExactly}
use Rattle.plan_demand3.specs.Built.{handed, OfPairs, OfPatternFromPairs, OfFromPairs}
use Rattle.plan_demand3.proofs.Answers.{one_length, accepted, works, answers, too_long}
use Rattle.plan_demand3.proofs.Left.{leaves_work}
use Rattle.plan_demand3.proofs.Pairs as pairs
use Rattle.plan_demand3.proofs.Pairs.{Worked}

pub answered_exactly : AnsweredExactly
answered_exactly i o h = (answers i o h, accepted i o h)

pub no_particle_drops_out : NoParticleDropsOut
no_particle_drops_out i o h len e =
    let a = accepted i o h len e in
    rw (works i o h a, one_length len (length_for i) (sym e ∙ answers i o h a)) (leaves_work i a)

of_pairs : (b : building.In) (c : building.Out) → Worked b c → (p : Plan) (w : Work) → enough true (planning_room b.n p w) ≡ true → (o : Out)
    → Promise door (handed b c p w) o → OfPairs b c p w o
of_pairs b c k p w room o h =
    let i = handed b c p w in
    let few = pairs.few b c k in
    let held = pairs.held b c k in
    let well = pairs.well b c k in
    record {
      well = well;
      stored = λ r q l. ((pairs.alike b c k).there r q l, (pairs.alike b c k).back r q l);
      answer = ⊎_elim (λ l. inr (l, too_long i o h few held room well l))
          (λ l. inl (l, answers i o h (record { few = few; held = held; room = room; well = well; short = l }))) (below_or envelope (length_for i));
      leaves = no_particle_drops_out i o h;
      demand = λ len e. demand_carried (pairs.alike b c k) (λ _ _. refl) (λ _ _. refl) (λ _ _. refl) (no_particle_drops_out i o h len e).demand;
    }

pub of_pattern_from_pairs : OfPatternFromPairs
of_pattern_from_pairs b c h m e = of_pairs b c (pairs.pattern_worked b c h m e)

pub of_from_pairs : OfFromPairs
of_from_pairs b c h m e = of_pairs b.pattern c.pattern (pairs.values_worked b c h m e)
