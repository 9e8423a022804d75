-- What `factorize_step_matrix` leaves: by the factor what `factorize` leaves, else the values as they were. Assumes nothing.
use Prim.Native.Nat.{ℕ, ◌*◌, ◌≤◌, ◌<◌}
use mathlib.Core.Path.{◌≡◌, refl, sym, ap, ◌∙◌}
use mathlib.Core.Bool.{Bool, true, false}
use Rattle.std.specs.Prelude.{Ok, Err}
use Rattle.law.specs.declared.refusal.Refusal.{Refusal}
use mathlib.Core.Logic.{inl, inr, ⊎_elim}
use lib.Ieee.{Float}
use borrow.Author.Tests.{leb-true, le-leb, lt-leb}
use Rattle.law.specs.Truth.{both, and_true, below_or}
use Rattle.law.specs.Room.{enough}
use Rattle.law.proofs.Room.{enough_is, enough_of}
use Rattle.law.specs.Refusal.{Passed, when}
use Rattle.law.proofs.Refusals.{when_is}
use Rattle.law.specs.Promise.{Promise, IsRefusal}
use Rattle.law.proofs.Promise.{one_outcome, zero_is, zero_from, accepts, work_or_refusal}
use Rattle.matrix_shape.specs.Rows.{at}
use Rattle.plan_fits.specs.Given.{plan_room}
use Rattle.plan_fits.specs.Cells.{Cell}
use Rattle.factor_load.specs.Permuted.{Matrix}
use Rattle.factor_make.specs.Factored as outcome
use Rattle.factor_make.specs.Entry.{Cholesky}
use Rattle.factor_doors.specs.Factorizing as F
use Rattle.gradient_doors.specs.Updating.{inverses_room}
use Rattle.step_routes.specs.Dense.{plan_held, structural, held_values}
use Rattle.step_solve.specs.Marking.{In, Out, left, dense, for_factor, refusals, renewed, mark_of, settled, work, door}
use Rattle.step_solve.specs.declared.Marked.TheVariants.{Direct, Failed, Iterative}
use Rattle.factor_cholesky.specs.Factorize as factor
use Rattle.factor_cholesky.specs.StepMatrix.{Accepted, step_matrix, step_entries, Leaves, ByFactor, Answers}
use Rattle.factor_cholesky.proofs.OfFactorize as made
use Rattle.factor_cholesky.proofs.OfFactorize.{never}

-- ---- which factorization a mark comes of

mark_direct : (g : F.Answer) → mark_of g ≡ Ok Direct → g ≡ Ok (Ok tt)
mark_direct (Err k) e = absurd (never (cc))
mark_direct (Ok (Ok _)) e = refl
mark_direct (Ok (Err x)) e = absurd (never (cc))

mark_failed : (g : F.Answer) (r : ℕ) (d : Float) → mark_of g ≡ Ok (Failed r d) → g ≡ Ok (Err (outcome.failed r d))
mark_failed (Err k) r d e = absurd (never (cc))
mark_failed (Ok (Ok _)) r d e = absurd (never (cc))
mark_failed (Ok (Err x)) r d e = let row : x.row ≡ r = cc in let pivot : x.pivot ≡ d = cc in rw (← row, ← pivot)

mark_refused : (g : F.Answer) (k : Refusal) → mark_of g ≡ Err k → g ≡ Err k
mark_refused (Err j) k e = let same : j ≡ k = cc in rw same
mark_refused (Ok (Ok _)) k e = absurd (never (cc))
mark_refused (Ok (Err x)) k e = absurd (never (cc))

mark_none : (g : F.Answer) → mark_of g ≡ Ok Iterative → ⊥
mark_none (Err k) e = never (cc)
mark_none (Ok (Ok _)) e = never (cc)
mark_none (Ok (Err x)) e = never (cc)

-- ---- the work

module _ (i : In) where
  settles : (f : F.Out) → factor.Leaves (for_factor i) f → Leaves i (settled i f)
  settles f l = record {
    direct = λ e. l.done (mark_direct f.answer e);
    spared = λ e. rw (mark_direct f.answer e);
    failed = λ r d e. l.failed r d (mark_failed f.answer r d e);
    renews = λ r d e. rw (mark_failed f.answer r d e);
    iterative = λ e. absurd (mark_none f.answer e);
    refused = λ k e. (l.refused k (mark_refused f.answer k e), rw (mark_refused f.answer k e));
    rest = l.rest;
    long = l.long;
  }

  by_factor : 2 * i.n ≤ i.max_dense_dofs → work i ≡ settled i (F.work (for_factor i))
  unfolding work
  by_factor h = rw (le-leb _ _ h)

  abbrev unfactored : Out
  unfactored = left (Ok Iterative) i.values (renewed i.n i.diagonal i.blocks i.preconditioner)

  by_iteration : i.max_dense_dofs < 2 * i.n → work i ≡ unfactored
  unfolding work
  by_iteration h = rw (lt-leb _ _ h)

  iterates : Leaves i unfactored
  iterates = record {
    direct = λ e. absurd (never (cc));
    spared = λ e. absurd (never (cc));
    failed = λ r d e. absurd (never (cc));
    renews = λ r d e. absurd (never (cc));
    iterative = λ e. (refl, refl);
    refused = λ k e. absurd (never (cc));
    rest = refl;
    long = refl;
  }

  leaves_work : Accepted i → Leaves i (work i)
  leaves_work a =
      ⊎_elim (λ h. rw (by_iteration h) iterates)
      (λ h. rw (by_factor h) (settles (F.work (for_factor i)) (made.leaves_work (for_factor i) (a.planned h)))) (below_or i.max_dense_dofs (2 * i.n))

-- ---- the tests

when_of : (d t : Bool) → (d ≡ true → t ≡ true) → when d t ≡ true
unfolding when
when_of true t h = h refl
when_of false t h = refl

module _ (i : In) where
  accepted_of : Passed (refusals i) → Accepted i
  unfolding refusals structural inverses_room F.values_room plan_held
  accepted_of p =
      let q = p.1.1.1 in
      let e = enough_is true (inverses_room i.n i.row_offsets i.blocks i.preconditioner) p.1.1.0 in
      record {
        few = leb-true _ _ p.0;
        held = p.1.0;
        room = p.1.1.0;
        well = q.1.0;
        planned = λ h.
            let d : dense i ≡ true = le-leb _ _ h in
            let t = when_is (dense i) _ q.0 d in
            record {
              few = leb-true _ _ p.0;
              held = p.1.0;
              planned = (both (enough true (plan_room i.n i.perm i.inv_perm i.first i.row_start)) _ t).0;
              room = enough_of true (F.values_room i.n i.row_offsets i.blocks i.row_start i.values) refl
                  (e.0, (held_values i.n i.perm i.inv_perm i.first i.row_start i.values t, tt));
              well = q.1.0;
              fits = when_is (dense i) _ q.1.1.0 d;
              short = leb-true _ _ (when_is (dense i) _ q.1.1.1.0 d);
            };
      }

  passed : Accepted i → Passed (refusals i)
  unfolding refusals structural F.values_room plan_held
  passed a =
      let plan : dense i ≡ true → factor.Accepted (for_factor i) = λ d. a.planned (leb-true _ _ d) in (
        le-leb _ _ a.few,
        (
          a.held,
          (
            a.room,
            (
              when_of (dense i) _ (λ d. and_true _ _ (plan d).planned (le-leb _ _ (enough_is true _ (plan d).room).1.0)),
              (a.well, (when_of (dense i) _ (λ d. (plan d).fits), (when_of (dense i) _ (λ d. le-leb _ _ (plan d).short), tt))),
            ),
          ),
        ),
      )

-- ---- the call

module _ (i : In) (o : Out) where
  leaves_refusal : (k : Refusal) → IsRefusal door i o k → Leaves i o
  leaves_refusal k r = rw r.1.1 (record {
    direct = λ e. absurd (never (cc));
    spared = λ e. refl;
    failed = λ q d e. absurd (never (cc));
    renews = λ q d e. absurd (never (cc));
    iterative = λ e. absurd (never (cc));
    refused = λ j e. (refl, refl);
    rest = refl;
    long = refl;
  })

  module _ (h : Promise door i o) where
    pub leaves : Leaves i o
    leaves =
        ⊎_elim (λ w. rw w.1 (leaves_work i (accepted_of i (zero_is door i (sym w.0))))) (λ r. leaves_refusal r.0 r.1) (work_or_refusal door i o h)

    works : Accepted i → o ≡ work i
    works a = one_outcome door i o (work i) h (accepts door i (sym (zero_from door i (passed i a))) (work i) refl)

    factors_by : Accepted i → 2 * i.n ≤ i.max_dense_dofs → ByFactor o
    unfolding F.work
    factors_by a l = by (F.state_of (for_factor i)).how (ap (λ (x : Out). x.answer) (works a ∙ by_factor i l))
      where
        by : (g : outcome.Factored) → o.answer ≡ mark_of (Ok g) → ByFactor o
        by (Ok _) e = inl e
        by (Err x) e = inr (x.row, (x.pivot, e))

    iterates_by : Accepted i → i.max_dense_dofs < 2 * i.n → o.answer ≡ Ok Iterative
    iterates_by a l = ap (λ (x : Out). x.answer) (works a ∙ by_iteration i l)

    -- an answer that is no refusal is of an accepted call
    accepted : ((k : Refusal) → o.answer ≡ Err k → ⊥) → Accepted i
    accepted none = ⊎_elim (λ w. accepted_of i (zero_is door i (sym w.0)))
        (λ r. absurd (none r.0 (ap (λ (x : Out). x.answer) r.1.1.1))) (work_or_refusal door i o h)

    unlike : ByFactor o → (k : Refusal) → o.answer ≡ Err k → ⊥
    unlike t k e = ⊎_elim (λ d. never (cc)) (λ d. let g = d.1.1 in never (cc)) t

    apart : ByFactor o → o.answer ≡ Ok Iterative → ⊥
    apart t e = ⊎_elim (λ d. never (cc)) (λ d. let g = d.1.1 in never (cc)) t

    pub answers : Answers i o
    answers = record {
      factors = factors_by;
      factored = λ t. let a = accepted (unlike t) in
          (a, ⊎_elim (λ l. absurd (apart t (iterates_by a l))) (λ l. l) (below_or i.max_dense_dofs (2 * i.n)));
      iterates = iterates_by;
      iterated = λ e. let a = accepted (λ k g. never (cc)) in
          (a, ⊎_elim (λ l. l) (λ l. absurd (apart (factors_by a l) e)) (below_or i.max_dense_dofs (2 * i.n)));
    }

    pub one_factor : Accepted i → 2 * i.n ≤ i.max_dense_dofs → (l : Matrix) (g : outcome.Factored) → Cholesky (2 * i.n) (at i.first) (step_matrix i) l g
        → (o.answer ≡ mark_of (Ok g)) × ((r c : ℕ) → Cell (2 * i.n) (at i.first) r c → step_entries i o r c ≡ l r c)
    one_factor a u l g w =
        let t = made.one_factor (for_factor i) (a.planned u) l g w in
        rw (works a ∙ by_factor i u) (ap mark_of t.0, t.1)
