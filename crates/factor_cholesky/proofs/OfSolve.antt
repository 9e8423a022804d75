-- What `solve` leaves at each particle is the substitutions' x, and no other numbers are so. Assumes nothing.
use Prim.Native.Nat.{ℕ, ◌+◌, ◌-◌, ◌*◌, ◌/◌, ◌%◌, ◌≤◌, ◌<◌}
use mathlib.Core.Path.{◌≡◌, refl, sym, ap, ◌∙◌}
use mathlib.Core.Bool.{true}
use Rattle.std.specs.Prelude.{Ok, Err}
use Rattle.law.specs.declared.refusal.Refusal.{Refusal}
use mathlib.Core.List.{List, ◌++◌}
use mathlib.Core.Logic.{⊎_elim}
use native.Mathlib.Omega.{arith}
use native.Mathlib.Nat.{add-zero, le_refl}
use lib.ListN.{length, get_or, length-append, length-drop, get_or-append}
use lib.Seq.{drop_at}
use lib.Ieee.{Float, nan}
use borrow.Author.Tests.{leb-true, le-leb}
use Rattle.law.proofs.Loop.{over_same, from}
use Rattle.law.specs.Truth.{below_or, same_or}
use Rattle.law.specs.Gather.{gather}
use Rattle.law.proofs.Gather.{gather_at, up_to_even}
use Rattle.law.proofs.Mix.{length_parts, length_mix}
use Rattle.law.proofs.Room.{enough_is}
use Rattle.law.specs.Promise.{Promise, IsWork}
use Rattle.law.proofs.Promise.{one_outcome, zero_is, zero_from, accepts, work_or_refusal}
use Rattle.plane.specs.Plane.{◌⊘◌, zero_of}
use Rattle.plane.specs.Lent.{vector_at}
use Rattle.matrix_shape.specs.Rows.{at}
use Rattle.plan_fits.specs.Fits.{PlanRules}
use Rattle.plan_fits.proofs.Fits.{planned_is}
use Rattle.plan_fits.specs.Cells.{look}
use Rattle.factor_load.specs.Permuted.{Matrix}
use Rattle.factor_passes.specs.Passes.{forward_by, forward_of}
use Rattle.factor_passes.specs.PassMeaning.{less_of, owed}
use Rattle.factor_passes.proofs.PassMeaning.{summed, forward_long, forward_is, backward_is}
use Rattle.factor_substitution.specs.Solve.{permuted, placed_of, solve_of}
use Rattle.factor_substitution.specs.Meaning.{solve_gives}
use Rattle.factor_doors.specs.Solving.{In, Out, values_room, refusals, work, door}
use Rattle.factor_cholesky.proofs.OfFactorize.{never}
use Rattle.factor_cholesky.specs.Solve.{Accepted, row_in, Substituted, Leaves}

-- ---- vectors in lists: two numbers to a part

module _ (g : ℕ → List Float) (two : (j : ℕ) → length (g j) ≡ 2) (n : ℕ) where
  part_at : (k j : ℕ) → k < n → j < 2 → get_or (gather g 0 n) (2 * k + j) nan ≡ get_or (g k) j nan
  part_at k j h l = rw (up_to_even g 2 two k) at (gather_at g n k j nan h (omega (arith, two k)))

-- row r of a vector by positions
row_at : (n : ℕ) (o : ℕ → ℕ) (v : List Float) (r : ℕ) → r < 2 * n → get_or (permuted n o v) r nan ≡ row_in o v r
unfolding permuted
row_at n o v r h =
    let e : 2 * (r / 2) + r % 2 ≡ r = omega arith in
    (rw e at (part_at (λ k. vector_at v (o k)) (λ j. refl) n (r / 2) (r % 2) (omega arith) (omega arith))) ∙ number (o (r / 2)) (r % 2) (omega arith)
  where
    number : (q j : ℕ) → j < 2 → get_or (vector_at v q) j nan ≡ get_or v (2 * q + j) nan
    number q j l =
        ⊎_elim (λ e. rw e (ap (λ (k : ℕ). get_or v k nan) (sym (add-zero (2 * q))))) (λ e. let d : j ≡ 1 = omega arith in rw d) (same_or j 0)

-- a vector of a list's front
front_at : (u t : List Float) (q : ℕ) → 2 * q + 1 < length u → vector_at (u ++ t) q ≡ vector_at u q
front_at u t q h = rw (get_or-append u t nan (2 * q) (omega arith), get_or-append u t nan (2 * q + 1) h)

-- ---- the equations have one solution

module _ (m : ℕ) (f : ℕ → ℕ) (l : Matrix) (b : ℕ → Float) (y x z w : List Float) (p : Substituted m f l b y x) (q : Substituted m f l b z w) where
  forth : (k : ℕ) → k ≤ m → (r : ℕ) → r < k → get_or y r nan ≡ get_or z r nan
  forth k =
      from (λ k. k ≤ m → (r : ℕ) → r < k → get_or y r nan ≡ get_or z r nan) 0 (λ _ r h. absurd (omega arith))
      (λ k u ih h r g. ⊎_elim (λ e. ih (omega arith) r e)
      (λ e. p.forward r (omega arith) ∙ summed f l r y z (b r) (λ j v. ih (omega arith) j (omega arith)) ∙ sym (q.forward r (omega arith)))
      (below_or r k)) k (omega arith)

  -- entry r looks only at those below it
  owed_same : (r : ℕ) (t : Float) → ((j : ℕ) → r < j → j < m → get_or x j nan ≡ get_or w j nan) → owed f l m x r t ≡ owed f l m w r t
  unfolding owed
  owed_same r t e =
      over_same (λ k. less_of f l (m - (k + 1)) r (get_or x (m - (k + 1)) nan)) (λ k. less_of f l (m - (k + 1)) r (get_or w (m - (k + 1)) nan)) 0 (m - (r + 1)) t
      (λ k s g h. rw (e (m - (k + 1)) (omega arith) (omega arith)))

  back : (k : ℕ) → k ≤ m → (r : ℕ) → m ≤ r + k → r < m → get_or x r nan ≡ get_or w r nan
  back k =
      from (λ k. k ≤ m → (r : ℕ) → m ≤ r + k → r < m → get_or x r nan ≡ get_or w r nan) 0 (λ _ r h g. absurd (omega arith))
      (λ k u ih h r g v.
      p.backward r v ∙ ap (λ (t : Float). t ⊘ l r r) (owed_same r (get_or y r nan) (λ j a c. ih (omega arith) j (omega arith) c)
      ∙ ap (owed f l m w r) (forth m (le_refl m) r v)) ∙ sym (q.backward r v)) k (omega arith)

  one_x : (r : ℕ) → r < m → get_or x r nan ≡ get_or w r nan
  one_x r h = back m (le_refl m) r (omega arith) h

-- ---- the work of an accepted call

module _ (i : In) (a : Accepted i) where
  rules : PlanRules i.n (at i.perm) (at i.inv_perm) (at i.first) (at i.row_start)
  rules = planned_is i.n _ _ _ _ a.fits

  abbrev triangle : Matrix
  triangle = look (at i.first) (at i.row_start) i.values

  -- b by rows, and the two passes' numbers
  abbrev sides : List Float
  sides = permuted i.n (at i.perm) i.b

  abbrev pub ys : List Float
  ys = forward_of (at i.first) triangle (2 * i.n) sides

  abbrev pub xs : List Float
  xs = placed_of i.n (at i.perm) (at i.first) (at i.row_start) i.values i.b

  sides_long : length sides ≡ 2 * i.n
  unfolding permuted
  sides_long = length_parts 2 (λ k. vector_at i.b (at i.perm k)) (λ j. refl) i.n

  ys_long : length ys ≡ 2 * i.n
  unfolding forward_of
  ys_long = forward_long (at i.first) triangle 0 (2 * i.n) sides ∙ sides_long

  solves : Substituted (2 * i.n) (at i.first) triangle (row_in (at i.perm) i.b) ys xs
  unfolding placed_of
  solves = record {
    forward = λ r h. forward_is (at i.first) triangle (2 * i.n) sides (omega (arith, sides_long)) r h
        ∙ ap (λ (u : Float). forward_by (at i.first) triangle ys u r) (row_at i.n (at i.perm) i.b r h);
    backward = λ r h. backward_is (at i.first) triangle (2 * i.n) ys (omega (arith, ys_long)) r h;
  }

  -- x by particles
  abbrev given : List Float
  given = solve_of i.n (at i.perm) (at i.inv_perm) (at i.first) (at i.row_start) i.values i.b

  given_long : length given ≡ 2 * i.n
  unfolding solve_of permuted
  given_long = length_parts 2 (λ k. vector_at xs (at i.inv_perm k)) (λ j. refl) i.n

  zeros_long : length (gather (λ k. zero_of) 0 i.n) ≡ 2 * i.n
  zeros_long = length_parts 2 (λ k. zero_of) (λ j. refl) i.n

  zero_at : (k : ℕ) → k < i.n → vector_at (gather (λ k. zero_of) 0 i.n) k ≡ zero_of
  zero_at k h =
      let first = rw add-zero at (part_at (λ k. zero_of) (λ j. refl) i.n k 0 h (omega arith)) in
      rw (first, part_at (λ k. zero_of) (λ j. refl) i.n k 1 h (omega arith))

  room : (2 * i.n ≤ length i.x) × (2 * i.n ≤ length i.scratch)
  unfolding values_room
  room = let e = enough_is true _ a.room in (e.1.1.0, e.1.1.1.0)

  pub leaves_work : Leaves i (work i) ys xs
  unfolding work
  leaves_work = record {
    solves = solves;
    gives = λ k h. front_at given _ (at i.perm k) (omega (arith, given_long, rules.particle k h))
        ∙ solve_gives i.n _ (at i.inv_perm) _ _ rules i.values i.b k h;
    rest = drop_at given _ _ given_long;
    long = rw (length-append, length-drop) (omega (arith, given_long, room.0));
    cleared = λ k h. front_at (gather (λ k. zero_of) 0 i.n) _ k (omega (arith, zeros_long)) ∙ zero_at k h;
    past = drop_at (gather (λ k. zero_of) 0 i.n) _ _ zeros_long;
    wide = length_mix 2 (λ k. zero_of) (λ j. refl) i.n i.scratch room.1;
  }

  pub one_solution : (y z : List Float) → Substituted (2 * i.n) (at i.first) triangle (row_in (at i.perm) i.b) y z → (k : ℕ) → k < i.n
      → vector_at (work i).x (at i.perm k) ≡ vector_at z k
  one_solution y z w k h =
      let same = one_x (2 * i.n) (at i.first) triangle (row_in (at i.perm) i.b) ys xs y z solves w in
      leaves_work.gives k h ∙ rw (same (2 * k) (omega arith), same (2 * k + 1) (omega arith))

-- ---- the call

module _ (i : In) (o : Out) (h : Promise door i o) where
  pub works : Accepted i → o ≡ work i
  unfolding refusals
  works a =
      let z = zero_from door i (le-leb _ _ a.few, (a.planned, (a.room, (a.fits, (le-leb _ _ a.short, tt))))) in
      one_outcome door i o (work i) h (accepts door i (sym z) (work i) refl)

  pub answers : Accepted i → o.answer ≡ Ok tt
  unfolding work
  answers a = ap (λ (x : Out). x.answer) (works a)

  pub accepted : o.answer ≡ Ok tt → Accepted i
  unfolding refusals
  accepted e =
      let w : IsWork door i o = ⊎_elim (λ w. w) (λ r.
      let g : o.answer ≡ Err r.0 = ap (λ (x : Out). x.answer) r.1.1.1 in
      absurd (never (cc))) (work_or_refusal door i o h) in
      let p = zero_is door i (sym w.0) in
      record { few = leb-true _ _ p.0; planned = p.1.0; room = p.1.1.0; fits = p.1.1.1.0; short = leb-true _ _ p.1.1.1.1.0 }

  pub untouched : (k : Refusal) → o.answer ≡ Err k → (o.x ≡ i.x) × (o.scratch ≡ i.scratch)
  unfolding work
  untouched k e =
      ⊎_elim (λ w.
      let g : o.answer ≡ Ok tt = ap (λ (x : Out). x.answer) w.1 in
      absurd (never (cc)))
      (λ r. (ap (λ (x : Out). x.x) r.1.1.1, ap (λ (x : Out). x.scratch) r.1.1.1)) (work_or_refusal door i o h)
