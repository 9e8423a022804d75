-- What an answer of the plan's call says: it is a length exactly where every test passes, and 7 where only the last one fails. Assumes nothing.
use Prim.Native.Nat.{ℕ, ◌≤◌, ◌<◌}
use mathlib.Core.Path.{◌≡◌, refl, sym, ap, ◌∙◌}
use mathlib.Core.Bool.{true}
use mathlib.Core.List.{[], ◌∷◌}
use mathlib.Core.Logic.{⊎_elim}
use native.Mathlib.Omega.{arith}
use lib.Dec.{leb}
use borrow.Author.Tests.{leb-true, le-leb, lt-leb}
use Rattle.law.specs.Limit.{particles, envelope}
use Rattle.std.specs.Prelude.{Result, Ok, Err}
use Rattle.law.specs.declared.refusal.Refusal.{Refusal}
use Rattle.law.specs.declared.refusal.Refusal.TheVariants.{LongEnvelope}
use Rattle.law.specs.Room.{enough}
use Rattle.law.specs.Refusal.{unless, verdict}
use Rattle.law.proofs.Refusals.{none_fails, stops, decides_late}
use Rattle.law.specs.Promise.{Promise, IsWork}
use Rattle.law.proofs.Promise.{one_outcome, zero_is, zero_from, refuses, accepts, work_or_refusal}
use Rattle.matrix_shape.specs.Given.{pattern_room, formed}
use Rattle.plan_doors.specs.Planning.{In, Out, planning_room, early, refusals, length_for, work, refuse, door}
use Rattle.plan_demand3.specs.Door.{Accepted}

-- a length, and nothing for a refusal
abbrev size_in : Result ℕ Refusal → ℕ × ℕ
size_in (Err k) = (0, 0)
size_in (Ok m) = (1, m)

apart : (k : Refusal) (m : ℕ) → ◌≡◌ {A = Result ℕ Refusal} (Err k) (Ok m) → ⊥
apart k m e = let z : ◌≡◌ {A = ℕ} 0 1 = ap (λ (a : Result ℕ Refusal). (size_in a).0) e in omega arith

pub one_length : (k m : ℕ) → ◌≡◌ {A = Result ℕ Refusal} (Ok k) (Ok m) → k ≡ m
one_length k m e = ap (λ (a : Result ℕ Refusal). (size_in a).1) e

module _ (i : In) (o : Out) (h : Promise door i o) where
  done : (len : ℕ) → o.answer ≡ Ok len → IsWork door i o
  unfolding refuse
  done len e = ⊎_elim (λ a. a) (λ r. absurd (apart r.0 len (sym (ap (λ (x : Out). x.answer) r.1.1.1) ∙ e))) (work_or_refusal door i o h)

  pub accepted : (len : ℕ) → o.answer ≡ Ok len → Accepted i
  unfolding early refusals
  accepted len e =
      let p = zero_is door i (sym (done len e).0) in
      record { few = leb-true _ _ p.0; held = p.1.0; room = p.1.1.0; well = p.1.1.1.0; short = leb-true _ _ p.1.1.1.1.0 }

  pub works : Accepted i → o ≡ work i
  unfolding early refusals
  works a =
      let z = zero_from door i (le-leb _ _ a.few, (a.held, (a.room, (a.well, (le-leb _ _ a.short, tt))))) in
      one_outcome door i o (work i) h (accepts door i (sym z) (work i) refl)

  pub answers : Accepted i → o.answer ≡ Ok (length_for i)
  unfolding work
  answers a = ap (λ (x : Out). x.answer) (works a)

  pub too_long : i.n ≤ particles → enough true (pattern_room i.n i.row_offsets i.cols i.diagonal) ≡ true
      → enough true (planning_room i.n i.plan i.work) ≡ true
      → formed i.n i.row_offsets i.cols i.diagonal ≡ true → envelope < length_for i → o.answer ≡ Err LongEnvelope
  unfolding early refusals refuse
  too_long few held room well long =
      let late = unless LongEnvelope (leb (length_for i) envelope) ∷ [] in
      let z : verdict (early i) ≡ Ok tt = none_fails (early i) (le-leb _ _ few, (held, (room, (well, tt)))) in
      let all = decides_late (early i) late (sym z) in
      let long_is : Err LongEnvelope ≡ verdict (refusals i) = stops LongEnvelope (leb (length_for i) envelope) [] (lt-leb _ _ long) ∙ all in
      ap (λ (x : Out). x.answer) (one_outcome door i o (refuse LongEnvelope i) h (refuses door i LongEnvelope long_is))
