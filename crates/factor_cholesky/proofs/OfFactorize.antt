-- What `factorize` leaves in the caller's list is Cholesky's factor, carried over from the list of just the factor's length. Assumes nothing.
use Prim.Native.Nat.{ℕ, ◌+◌, ◌-◌, ◌*◌, ◌≤◌, ◌<◌}
use mathlib.Core.Path.{◌≡◌, refl, sym, ap, ◌∙◌}
use mathlib.Core.Bool.{true}
use Rattle.std.specs.Prelude.{Ok, Err}
use Rattle.law.specs.declared.refusal.Refusal.{Refusal}
use mathlib.Core.List.{List}
use mathlib.Core.Logic.{inl, inr, ⊎_elim}
use native.Mathlib.Omega.{arith}
use lib.ListN.{length, get_or, drop, length-append, length-drop, get_or-append}
use lib.Seq.{drop_at, get_or-drop, ext_get_or}
use lib.Ieee.{Float, nan}
use borrow.Author.Tests.{leb-true, le-leb}
use Rattle.law.proofs.Loop.{from}
use Rattle.law.specs.Truth.{below_or}
use Rattle.law.proofs.Room.{enough_is}
use Rattle.law.specs.Promise.{Promise, IsWork, IsRefusal}
use Rattle.law.proofs.Promise.{one_outcome, zero_is, zero_from, accepts, work_or_refusal}
use Rattle.matrix_shape.specs.Rows.{at, Pattern}
use Rattle.matrix_shape.specs.Given.{pattern}
use Rattle.plan_fits.specs.Fits.{Fits}
use Rattle.plan_fits.proofs.Fits.{fits_is}
use Rattle.plan_fits.specs.Given.{factor_length}
use Rattle.plan_fits.specs.Cells.{Skyline, skyline_of, Cell, place, held}
use Rattle.factor_load.specs.Permuted.{Matrix}
use Rattle.factor_make.specs.Factored as outcome
use Rattle.factor_make.specs.Entry.{Finished, Ended, Cholesky}
use Rattle.factor_make.proofs.Meaning.{cholesky_kept}
use Rattle.factor_make.proofs.Matrix.{matrix_cholesky, matrix_long}
use Rattle.factor_make.proofs.Only.{only}
use Rattle.factor_doors.specs.Factorizing.{In, Out, Answer, left, values_room, refusals, state_of, work, door}
use Rattle.factor_cholesky.specs.Factorize.{Accepted, matrix_in, entries_in, Leaves, Answered}

-- two answers that are told apart
pub never : ◌≡◌ {A = ℕ} 0 1 → ⊥
never e = omega arith

-- ---- what an ending says

abbrev pub answered : outcome.Factored → Answer
answered h = Ok h

module _ (m : ℕ) (f : ℕ → ℕ) (a l : Matrix) where
  when_done : (h : outcome.Factored) → Cholesky m f a l h → answered h ≡ Ok (Ok tt) → Finished m f a l
  when_done (Ok _) w e = w
  when_done (Err x) w e = absurd (never (cc))

  when_failed : (h : outcome.Factored) → Cholesky m f a l h → (r : ℕ) (d : Float) → answered h ≡ Ok (Err (outcome.failed r d)) → Ended m f a l r d
  when_failed (Ok _) w r d e = absurd (never (cc))
  when_failed (Err x) w r d e = let same : x ≡ outcome.failed r d = cc in rw same at w

unrefused : (h : outcome.Factored) (k : Refusal) → answered h ≡ Err k → ⊥
unrefused (Ok _) k e = never (cc)
unrefused (Err x) k e = never (cc)

-- every place before the envelope's end is an entry's
placed : {m : ℕ} {f s : ℕ → ℕ} → Skyline m f s → (k : ℕ) → k < s m → (r : ℕ) × ((c : ℕ) × (Cell m f r c × (place f s r c ≡ k)))
placed {m} {f} {s} w k h =
    let t = from (λ j. j ≤ m → k < s j → (r : ℕ) × ((r < j) × ((s r ≤ k) × (k < s (r + 1))))) 0 (λ _ g. absurd (omega (arith, w.begins)))
    (λ j q ih l g. ⊎_elim (λ u. let t = ih (omega arith) u in (t.0, (omega (arith, t.1.0), t.1.1))) (λ u. (j, (omega arith, (u, g)))) (below_or k (s j)))
    m (omega arith) (omega arith) h in
    let r = t.0 in
    let grow = w.grow r t.1.0 in
    let low = w.low r t.1.0 in (
      r,
      (
        f r + (k - s r),
        (record { row = t.1.0; left = omega arith; upto = omega (arith, t.1.1.0, t.1.1.1) }, omega (arith, t.1.1.0)),
      ),
    )

-- two lists of a length are one where they are the same before a place and from it on
joined : (m : ℕ) (u v : List Float) → length u ≡ length v → ((k : ℕ) → k < m → get_or u k nan ≡ get_or v k nan) → drop m u ≡ drop m v → u ≡ v
joined m u v long front rest =
    ext_get_or nan u v long (λ k g. ⊎_elim (λ l. front k l)
    (λ l.
    let e : m + (k - m) ≡ k = omega arith in
    sym (rw e at (get_or-drop m u (k - m) nan)) ∙ ap (λ (z : List Float). get_or z (k - m) nan) rest ∙ (rw e at (get_or-drop m v (k - m) nan)))
    (below_or k m))

-- ---- the work of an accepted call

module _ (i : In) (a : Accepted i) where
  pat : Pattern i.n i.row_offsets i.cols i.diagonal
  pat = pattern i.n i.row_offsets i.cols i.diagonal a.few a.held a.well

  fit : Fits i.n (at i.row_offsets) (at i.cols) (at i.perm) (at i.inv_perm) (at i.first) (at i.row_start)
  fit = fits_is i.n _ _ _ _ _ _ a.fits

  sky : Skyline (2 * i.n) (at i.first) (at i.row_start)
  sky = skyline_of fit.planned

  front_long : length (state_of i).values ≡ factor_length i.n i.row_start
  unfolding state_of factor_length
  front_long = matrix_long i.n _ _ _ _ _ _ _ _ pat.formed fit i.blocks

  room : factor_length i.n i.row_start ≤ length i.values
  unfolding values_room
  room = (enough_is true _ a.room).1.0

  -- an entry of the envelope stands in the front
  in_front : (r c : ℕ) → Cell (2 * i.n) (at i.first) r c → place (at i.first) (at i.row_start) r c < factor_length i.n i.row_start
  unfolding factor_length
  in_front r c e = held sky e

  made : Cholesky (2 * i.n) (at i.first) (matrix_in i) (entries_in i (state_of i).values) (state_of i).how
  unfolding state_of
  made = matrix_cholesky i.n _ _ _ _ _ _ _ _ pat.formed fit i.blocks

  whole : Cholesky (2 * i.n) (at i.first) (matrix_in i) (entries_in i (work i).values) (state_of i).how
  unfolding work
  whole =
      cholesky_kept (2 * i.n) (at i.first) (matrix_in i) (entries_in i (state_of i).values) _ sky.low
      (λ r c e. sym (get_or-append (state_of i).values _ nan _ (omega (arith, in_front r c e, front_long)))) (state_of i).how made

  pub leaves_work : Leaves i (work i)
  unfolding work
  leaves_work = record {
    done = when_done _ _ _ _ (state_of i).how whole;
    failed = when_failed _ _ _ _ (state_of i).how whole;
    refused = λ k e. absurd (unrefused (state_of i).how k e);
    rest = drop_at (state_of i).values _ _ front_long;
    long = rw (length-append, length-drop) (omega (arith, front_long, room));
  }

  pub one_factor : (l : Matrix) (h : outcome.Factored) → Cholesky (2 * i.n) (at i.first) (matrix_in i) l h
      → ((work i).answer ≡ answered h) × ((r c : ℕ) → Cell (2 * i.n) (at i.first) r c → entries_in i (work i).values r c ≡ l r c)
  unfolding work
  one_factor l h w =
      let t = only (2 * i.n) (at i.first) sky.low (matrix_in i) (entries_in i (work i).values) l (state_of i).how h whole w in
      (ap answered t.0, t.1)

  told : (v : List Float) (h : outcome.Factored) → (work i).answer ≡ answered h → (work i).values ≡ v → work i ≡ left (answered h) v
  unfolding work
  told v h e g = rw (e, g)

  pub one_list : (v : List Float) (h : outcome.Factored) → length v ≡ length i.values
      → drop (factor_length i.n i.row_start) v ≡ drop (factor_length i.n i.row_start) i.values
      → Cholesky (2 * i.n) (at i.first) (matrix_in i) (entries_in i v) h → work i ≡ left (answered h) v
  unfolding factor_length
  one_list v h long rest w =
      let t = one_factor (entries_in i v) h w in
      told v h t.0 (joined (factor_length i.n i.row_start) (work i).values v (leaves_work.long ∙ sym long)
      (λ k g. let p = placed sky k g in rw p.1.1.1 at (t.1 p.0 p.1.0 p.1.1.0)) (leaves_work.rest ∙ sym rest))

-- ---- the call

module _ (i : In) (o : Out) where
  accepted_of : IsWork door i o → Accepted i
  unfolding refusals
  accepted_of w =
      let p = zero_is door i (sym w.0) in
      record {
        few = leb-true _ _ p.0;
        held = p.1.0;
        planned = p.1.1.0;
        room = p.1.1.1.0;
        well = p.1.1.1.1.0;
        fits = p.1.1.1.1.1.0;
        short = leb-true _ _ p.1.1.1.1.1.1.0;
      }

  leaves_refusal : (k : Refusal) → IsRefusal door i o k → Leaves i o
  leaves_refusal k r = rw r.1.1 (record {
    done = λ e. absurd (never (cc));
    failed = λ q d e. absurd (never (cc));
    refused = λ j e. refl;
    rest = refl;
    long = refl;
  })

  module _ (h : Promise door i o) where
    pub leaves : Leaves i o
    leaves = ⊎_elim (λ w. rw w.1 (leaves_work i (accepted_of w))) (λ r. leaves_refusal r.0 r.1) (work_or_refusal door i o h)

    pub works : Accepted i → o ≡ work i
    unfolding refusals
    works a =
        let z = zero_from door i (le-leb _ _ a.few, (a.held, (a.planned, (a.room, (a.well, (a.fits, (le-leb _ _ a.short, tt))))))) in
        one_outcome door i o (work i) h (accepts door i (sym z) (work i) refl)

    pub answers : Accepted i → Answered o
    unfolding work
    answers a = by (state_of i).how (ap (λ (x : Out). x.answer) (works a))
      where
        by : (g : outcome.Factored) → o.answer ≡ answered g → Answered o
        by (Ok _) e = inl e
        by (Err x) e = inr (x.row, (x.pivot, e))

    pub accepted : Answered o → Accepted i
    accepted t = ⊎_elim accepted_of (λ r. absurd (none r.0 r.1)) (work_or_refusal door i o h)
      where
        none : (k : Refusal) → IsRefusal door i o k → ⊥
        none k r =
            let e : o.answer ≡ Err k = ap (λ (x : Out). x.answer) r.1.1 in
            ⊎_elim (λ d. never (cc)) (λ d. let g = d.1.1 in never (cc)) t
