-- What follows of specs/Planning.antt: its theorems, apart from the definitions.
use Rattle.std.specs.Prelude.{ℕ, ◌+◌, ◌*◌, ◌<◌, ◌≡◌, Bool, cond, length, take, drop, Ok, Err}
use Rattle.std.proofs.Math.Path.{refl, ap}
use Rattle.std.proofs.Common.{sym, ◌∙◌, take-append-drop, length-take-le, leb-true, ne_eqb}
use Rattle.std.proofs.Math.Bool.{true, false}
use Rattle.std.proofs.Math.Logic.{⊎_elim}
use mathlib.Core.List.{List, [], ◌∷◌, ◌++◌}
use native.Mathlib.Omega.{arith}
use Rattle.std.proofs.Math.Dec.{leb}
use Rattle.law.specs.Limit.{envelope}
use Rattle.law.specs.declared.refusal.Refusal.{Refusal}
use Rattle.law.specs.declared.refusal.Refusal.TheVariants.{LongEnvelope}
use Rattle.law.proofs.Room as room_lemmas
use Rattle.law.specs.Number.{number}
use Rattle.law.specs.Refusal.{Verdict, unless, verdict}
use Rattle.law.proofs.Refusals.{all_pass, it_fails, decides_early, decides_late, verdict_under}
use Rattle.law.specs.Promise.{Promise}
use Rattle.law.proofs.Promise.{refuses, accepts}
use Rattle.matrix_shape.specs.Given.{pattern}
use Rattle.order_definition.specs.Tight.{tight_of}
use Rattle.plan_layout.specs.EachOnce.{order_lists}
use Rattle.plan_make.specs.Plan.{Plan, four, plan_of}
use Rattle.plan_make.specs.Parts.{Work, five, Ground, Room, Desk, Made, made, zeros, settled, made_of}
use Rattle.plan_doors.specs.Planning.{In, Ready, cleared, door, early, laid_over, left, length_for, own_cols, own_starts, plan_part, planning_room, refusals, refuse, whole_of, work, work_over, work_part}

pub ready : (i : In) → Ok tt ≡ verdict (early i) → Ready i
unfolding early planning_room
ready i h =
    let p = all_pass (early i) h in
    let e = room_lemmas.enough_is true (planning_room i.n i.plan i.work) p.1.1.0 in
    record {
      pattern = pattern i.n i.row_offsets i.cols i.diagonal (leb-true _ _ p.0) p.1.0 p.1.1.1.0;
      order = e.0;
      inverse = e.1.0;
      first = e.1.1.0;
      rows = e.1.1.1.0;
      degrees = e.1.1.1.1.0;
      placed = e.1.1.1.1.1.0;
      mark = e.1.1.1.1.1.1.0;
      level = e.1.1.1.1.1.1.1.0;
      queue = e.1.1.1.1.1.1.1.1.0;
    }

pub ready_lists : (i : In) → Ready i → Ground i.n (own_starts i) (own_cols i) × (Room i.n (plan_part i.n i.plan) × Desk i.n (work_part i.n i.work))
ready_lists i r = (
  record {
    few = r.pattern.few;
    pattern = tight_of i.n i.row_offsets i.cols i.diagonal r.pattern;
    listed = order_lists i.n i.row_offsets i.cols i.diagonal r.pattern;
  },
  (
    record {
      order = length-take-le _ _ r.order;
      inverse = length-take-le _ _ r.inverse;
      first = length-take-le _ _ r.first;
      rows = length-take-le _ _ r.rows;
    },
    record {
      degrees = length-take-le _ _ r.degrees;
      placed = length-take-le _ _ r.placed;
      mark = length-take-le _ _ r.mark;
      level = length-take-le _ _ r.level;
      queue = length-take-le _ _ r.queue;
    },
  ),
)

pub ready_parts : (i : In) → Ready i
    → Ground (length (take i.n i.plan.order)) (own_starts i) (own_cols i)
    × (Room (length (take i.n i.plan.order)) (plan_part i.n i.plan) × Desk (length (take i.n i.plan.order))
    (work_part i.n i.work))
ready_parts i r = rw (length-take-le i.n i.plan.order r.order) (ready_lists i r)

stays : (n : ℕ) (old : Plan) → laid_over n (plan_part n old) old ≡ old
unfolding laid_over
stays n old = rw (
  take-append-drop n old.order,
  take-append-drop n old.inverse,
  take-append-drop (2 * n) old.first,
  take-append-drop
      (2 * n + 1) old.rows,
)

settled_over : (n len : ℕ) (p old : Plan) → laid_over n (settled len p (plan_part n old)) old ≡ settled len (laid_over n p old) old
unfolding settled
settled_over n len p old = go (leb len envelope)
  where
    go : (t : Bool) → laid_over n (cond t p (plan_part n old)) old ≡ cond t (laid_over n p old) old
    go true = refl
    go false = stays n old

-- p to y are the plan's lists after planning, d to h the work lists
pub whole_is : (i : In) (m len : ℕ) (p q x y d e f g h : List ℕ) → m ≡ i.n → made len (four p q x y) (five d e f g h) ≡ made_of m (own_starts i)
    (own_cols i) (plan_part i.n i.plan)
    → made len
    (four (p ++ drop i.n i.plan.order) (q ++ drop i.n i.plan.inverse) (x ++ drop (2 * i.n) i.plan.first)
    (y ++ drop (2 * i.n + 1) i.plan.rows))
    (five (d ++ drop i.n i.work.degrees) (e ++ drop i.n i.work.placed) (f ++ drop i.n i.work.mark)
    (g ++ drop i.n i.work.level) (h ++ drop i.n i.work.queue))
    ≡ whole_of i
unfolding made_of whole_of length_for zeros cleared laid_over work_over
whole_is i m len p q x y d e f g h same is =
    ap (λ (b : Made). made b.len (laid_over i.n b.plan i.plan) (work_over i.n b.work i.work)) (rw same at is)
    ∙ ap (λ (p : Plan). made (length_for i) p (cleared i.n i.work)) (settled_over i.n (length_for i) (plan_of i.n (own_starts i) (own_cols i))
    i.plan)

-- ---- the returns of the door

module _ (i : In) where
  under : (k : Refusal) → Err k ≡ verdict (early i) → number k < 7
  unfolding early
  under k e = rw (sym e) at (verdict_under 7 (early i) (omega arith) (omega arith, (omega arith, (omega arith, (omega arith, tt)))))

  pub refused_early : (k : Refusal) → Err k ≡ verdict (early i) → Promise door i (left (Err k) i.plan i.work)
  unfolding refusals refuse
  refused_early k e =
      rw (ne_eqb (number k) 7 (λ z. omega (arith, under k e))) at (refuses door i k (decides_early (early i) _ k (sym e)))

  -- planning has answered that the envelope is len long, and left plan and work
  module _ (e : Ok tt ≡ verdict (early i)) (len : ℕ) (plan : Plan) (w : Work) (h : made len plan w ≡ whole_of i) where
    long : len ≡ length_for i
    unfolding whole_of
    long = ap (λ (m : Made). m.len) h

    late : (v : Verdict) → v ≡ verdict (unless LongEnvelope (leb len envelope) ∷ []) → v ≡ verdict (refusals i)
    unfolding refusals
    late v q = (rw long at q) ∙ decides_late (early i) _ e

    pub refused_late : (k : Refusal) → Err k ≡ verdict (unless LongEnvelope (leb len envelope) ∷ []) → Promise door i (left (Err k) plan w)
    unfolding refuse whole_of settled
    refused_late k q = ⊎_elim
        (λ (t : (LongEnvelope ≡ k) × (leb len envelope ≡ false)).
        let f : leb (length_for i) envelope ≡ false = rw long at t.1 in
        rw (sym t.0) (ap (λ (m : Made). left (Err LongEnvelope) m.plan m.work) (rw f at h) ∙ refuses door i LongEnvelope (rw (sym t.0) at (late (Err k) q))))
        (λ t. absurd t) (it_fails (unless LongEnvelope (leb len envelope) ∷ []) k (sym q))

    pub accepted : Ok tt ≡ verdict (unless LongEnvelope (leb len envelope) ∷ []) → Promise door i (left (Ok len) plan w)
    unfolding work whole_of settled
    accepted q =
        let f : leb (length_for i) envelope ≡ true = rw long at (all_pass (unless LongEnvelope (leb len envelope) ∷ []) q).0 in
        accepts door i (late (Ok tt) q) (left (Ok len) plan w) (ap (λ (m : Made). left (Ok m.len) m.plan m.work) (rw f at h))
