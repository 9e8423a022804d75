-- All columns, particle after particle: a column once made is left alone by the solves behind it. Assumes nothing.
use Prim.Native.Nat.{ℕ, zero, suc, ◌+◌, ◌*◌, ◌-◌, ◌≤◌, ◌<◌}
use native.Mathlib.Omega.{arith}
use native.Mathlib.Nat.{mul_comm, mul_assoc}
use mathlib.Core.Path.{◌≡◌, refl, sym, ap, ◌∙◌}
use mathlib.Core.Bool.{Bool, true, false}
use mathlib.Core.List.{List, [], ◌∷◌, ◌++◌, append-nil}
use mathlib.Core.Logic.{⊎_elim}
use lib.Dec.{eqb}
use lib.ListN.{length, drop}
use lib.Seq.{drop_at, ext_get_or}
use lib.Ieee.{Float, nan}
use borrow.Author.Tests.{eqb-true, eqb-false, eq-eqb, ne_eqb}
use Rattle.law.specs.Limit.{tally, unloaded}
use Rattle.law.specs.Truth.{below_or}
use Rattle.law.proofs.Loop.{over_holds}
use Rattle.law.specs.Gather.{gather}
use Rattle.law.proofs.Gather.{gather_none, gather_more}
use Rattle.law.specs.Store.{written, written_long, drop_written, part_at, length_part}
use Rattle.law.specs.Mix.{Holds}
use Rattle.law.proofs.Mix.{part_new, part_else}
use Rattle.matrix_shape.specs.Rows.{at}
use Rattle.gradient_definition.specs.Vectors.{zeros}
use Rattle.step_tally.specs.declared.Tally.{Tally}
use Rattle.step_tally.specs.Count.{Asked}
use Rattle.step_tally.specs.Count.{counted_of, counted_to}
use Rattle.step_tally.specs.Runs.{fresh, after}
use Rattle.step_routes.specs.Dense.{cleared, swept}
use Rattle.columns_table.specs.Columns.{start_of, column_of, columns_need, column_inside}
use Rattle.columns_make.specs.Making.{In, Held, Ready, dense, axis_made, particle_made, begun, made}
use Rattle.columns_meaning.specs.Solution.{solution, asked_for, asked_at}
use Rattle.columns_meaning.specs.Computed.{Loaded}
use Rattle.columns_meaning.proofs.Step.{zeros_long}
use Rattle.columns_meaning.proofs.Axis.{solution_long, after_solve, axis_is}

-- ---- where a column stands

-- axis k of column c is part 2c + k, of 2 * n places
start_is : (n c k : ℕ) → start_of n c k ≡ (2 * n) * (2 * c + k)
start_is n c k = ap (λ (m : ℕ). 2 * m) (mul_comm (2 * c + k) n) ∙ sym (mul_assoc 2 n (2 * c + k))

module _ (n : ℕ) (l : List Float) (c k : ℕ) (v : List Float) (long : length v ≡ 2 * n) where
  column_new : start_of n c k + 2 * n ≤ length l → Holds (2 * n) nan (written l (start_of n c k) v) (2 * c + k) v
  column_new room = rw (start_is n c k) (part_new (2 * n) nan l (2 * c + k) v long (omega (arith, start_is n c k)))

  column_else : (d m : ℕ) (w : List Float) → (2 * d + m ≡ 2 * c + k → ⊥) → Holds (2 * n) nan l (2 * d + m) w
      → Holds (2 * n) nan (written l (start_of n c k) v) (2 * d + m) w
  column_else d m w ne h j g = rw (start_is n c k) (part_else (2 * n) nan l (2 * c + k) v (2 * d + m) long ne j g ∙ h j g)

-- what a part holds, read as a column
column_of_lem : (n : ℕ) (l : List Float) (c k : ℕ) (v : List Float) → length v ≡ 2 * n → start_of n c k + 2 * n ≤ length l → Holds (2 * n) nan l (2 * c + k) v
    → column_of n l c k ≡ v
column_of_lem n l c k v long room h =
    let s = start_of n c k in
    let e : s + 2 * n - s ≡ 2 * n = omega arith in
    let size : length (column_of n l c k) ≡ 2 * n = length_part s (s + 2 * n) l (omega arith) room ∙ e in
    ext_get_or nan (column_of n l c k) v (size ∙ sym long)
    (λ j g. let m : j < 2 * n = omega arith in part_at s (s + 2 * n) l j nan (omega arith) ∙ (rw (start_is n c k) (h j m)))

-- ---- the lists and the records

cleared_twice : (n : ℕ) (l : List Float) → cleared n (cleared n l) ≡ cleared n l
unfolding zeros
cleared_twice n l = ap (λ (t : List Float). zeros n ++ t) (drop_at (zeros n) (drop (2 * n) l) (2 * n) (zeros_long n))

swept_twice : (d : Bool) (n : ℕ) (l : List Float) → swept d n (swept d n l) ≡ swept d n l
unfolding swept
swept_twice true n l = cleared_twice n l
swept_twice false n l = refl

-- cleared, and twice more
cleared_still : (n : ℕ) (l m : List Float) → l ≡ cleared n m → cleared n (cleared n l) ≡ cleared n m
cleared_still n l m e = cleared_twice n l ∙ ap (cleared n) e ∙ cleared_twice n m

swept_still : (d : Bool) (n : ℕ) (l m : List Float) → l ≡ swept d n m → swept d n (swept d n l) ≡ swept d n m
swept_still d n l m e = swept_twice d n l ∙ ap (swept d n) e ∙ swept_twice d n m

pub after_append : (c : ℕ) (t : Tally) (l m : List Asked) → after c t (l ++ m) ≡ after c (after c t l) m
unfolding after
after_append c t [] m = refl
after_append c t (a ∷ l) m = after_append c (counted_to c t a) l m

-- ---- the loop

module _ (i : In) (has : Ready i) where
  abbrev column_at : ℕ → ℕ
  column_at p = at i.column_of p

  -- the state before particle m's turn
  pub record Upto (m : ℕ) (s : Held) : Type 0 where
    pub long : length s.columns ≡ length i.columns
    pub parts : (p k : ℕ) → p < m → Loaded i p → k < 2 → Holds (2 * i.n) nan s.columns (2 * column_at p + k) (solution i p k)
    pub rest : drop (columns_need i.n i.loaded) s.columns ≡ drop (columns_need i.n i.loaded) i.columns
    pub rhs : s.rhs ≡ cleared i.n i.rhs
    pub scratch : s.scratch ≡ swept (dense i) i.n i.scratch
    pub residual : s.residual ≡ cleared i.n i.residual
    pub direction : s.direction ≡ cleared i.n i.direction
    pub a_direction : s.a_direction ≡ cleared i.n i.a_direction
    pub z : s.z ≡ cleared i.n i.z
    pub lent : s.lent ≡ after tally i.tally (gather (asked_at i) 0 m)
    pub own : s.own ≡ after tally fresh (gather (asked_at i) 0 m)

  before : Upto 0 (begun i)
  unfolding begun after
  before = record {
    long = refl;
    parts = λ p k l _ _. absurd (omega arith);
    rest = refl;
    rhs = refl;
    scratch = refl;
    residual = refl;
    direction = refl;
    a_direction = refl;
    z = refl;
    lent = ap (after tally i.tally) (gather_none (asked_at i) 0);
    own = ap (after tally fresh) (gather_none (asked_at i) 0);
  }

  -- a particle that isn't loaded
  passed : (m : ℕ) (s : Held) → column_at m ≡ unloaded → Upto m s → Upto (m + 1) s
  unfolding asked_at
  passed m s e u =
      let none : gather (asked_at i) 0 m ≡ gather (asked_at i) 0 (m + 1) =
      sym (append-nil (gather (asked_at i) 0 m)) ∙ ap (λ (t : List Asked). gather (asked_at i) 0 m ++ t) (sym (rw (eq-eqb _ _ e)))
      ∙ gather_more (asked_at i) 0 m (omega arith) in
      record {
        long = u.long;
        parts = λ p k l is g. ⊎_elim (λ q. u.parts p k q is g) (λ q. let same : p ≡ m = omega arith in absurd (is.1 (ap column_at same ∙ e))) (below_or p m);
        rest = u.rest;
        rhs = u.rhs;
        scratch = u.scratch;
        residual = u.residual;
        direction = u.direction;
        a_direction = u.a_direction;
        z = u.z;
        lent = u.lent ∙ ap (after tally i.tally) none;
        own = u.own ∙ ap (after tally fresh) none;
      }

  -- a particle that is: both axes
  module _ (m : ℕ) (s : Held) (is : Loaded i m) (u : Upto m s) where
    abbrev c : ℕ
    c = column_at m

    abbrev one : List Float
    one = written s.columns (start_of i.n c 0) (solution i m 0)

    abbrev two : List Float
    two = written one (start_of i.n c 1) (solution i m 1)

    room : (k : ℕ) → k < 2 → start_of i.n c k + 2 * i.n ≤ columns_need i.n i.loaded
    room k g = column_inside i.n c k i.loaded (has.numbered.inside m is.0 is.1) g

    one_long : length one ≡ length i.columns
    one_long = written_long s.columns (start_of i.n c 0) (solution i m 0) one refl ∙ u.long

    two_long : length two ≡ length i.columns
    two_long = written_long one (start_of i.n c 1) (solution i m 1) two refl ∙ one_long

    rest_two : drop (columns_need i.n i.loaded) two ≡ drop (columns_need i.n i.loaded) i.columns
    rest_two =
        let need = columns_need i.n i.loaded in
        drop_written need one (start_of i.n c 1) (solution i m 1) (omega (arith, room 1 (omega arith), solution_long i m 1))
        ∙ drop_written need s.columns (start_of i.n c 0) (solution i m 0) (omega (arith, room 0 (omega arith), solution_long i m 0)) ∙ u.rest

    -- another part is as it was
    else_two : (d k : ℕ) (v : List Float) → k < 2 → (d ≡ c → ⊥) → Holds (2 * i.n) nan s.columns (2 * d + k) v → Holds (2 * i.n) nan two (2 * d + k) v
    else_two d k v g ne h =
        column_else i.n one c 1 (solution i m 1) (solution_long i m 1) d k v (λ e. ne (omega arith))
        (column_else i.n s.columns c 0 (solution i m 0) (solution_long i m 0) d k v (λ e. ne (omega arith)) h)

    new_two : (k : ℕ) → k < 2 → Holds (2 * i.n) nan two (2 * c + k) (solution i m k)
    new_two zero g =
        column_else i.n one c 1 (solution i m 1) (solution_long i m 1) c 0 (solution i m 0) (λ e. omega arith)
        (column_new i.n s.columns c 0 (solution i m 0) (solution_long i m 0) (omega (arith, room 0 g, u.long, has.room)))
    new_two (suc zero) g = column_new i.n one c 1 (solution i m 1) (solution_long i m 1) (omega (arith, room 1 g, one_long, has.room))
    new_two (suc (suc k)) g = absurd (omega arith)

    parts_two : (p k : ℕ) → p < m + 1 → Loaded i p → k < 2 → Holds (2 * i.n) nan two (2 * column_at p + k) (solution i p k)
    parts_two p k l at g =
        ⊎_elim (λ q. else_two (column_at p) k (solution i p k) g (λ e. let same = has.numbered.once p m at.0 is.0 at.1 e in omega arith)
        (u.parts p k q at g))
        (λ q. let same : p ≡ m = omega arith in rw same (new_two k g)) (below_or p m)

    counts_two : (t v : Tally) → v ≡ after tally t (gather (asked_at i) 0 m)
        → counted_of (counted_of v (asked_for i m 0)) (asked_for i m 1) ≡ after tally t (gather (asked_at i) 0 (m + 1))
    unfolding after asked_at
    counts_two t v e =
        let l = gather (asked_at i) 0 m in
        let both : asked_at i m ≡ asked_for i m 0 ∷ asked_for i m 1 ∷ [] = rw (ne_eqb _ _ is.1) in
        ap (λ (w : Tally). counted_of (counted_of w (asked_for i m 0)) (asked_for i m 1)) e
        ∙ sym (after_append tally t l (asked_for i m 0 ∷ asked_for i m 1 ∷ []))
        ∙ ap (λ (w : List Asked). after tally t (l ++ w)) (sym both) ∙ ap (after tally t) (gather_more (asked_at i) 0 m (omega arith))

    turned : Upto (m + 1) (axis_made i m 1 (axis_made i m 0 s))
    turned =
        let e = ap (axis_made i m 1) (axis_is i m 0 s has is) ∙ axis_is i m 1 (after_solve i m 0 s has is) has is in
        let n = i.n in
        rw e record {
          long = two_long;
          parts = parts_two;
          rest = rest_two;
          rhs = cleared_still n s.rhs i.rhs u.rhs;
          scratch = swept_still (dense i) n s.scratch i.scratch u.scratch;
          residual = cleared_still n s.residual i.residual u.residual;
          direction = cleared_still n s.direction i.direction u.direction;
          a_direction = cleared_still n s.a_direction i.a_direction u.a_direction;
          z = cleared_still n s.z i.z u.z;
          lent = counts_two i.tally s.lent u.lent;
          own = counts_two fresh s.own u.own;
        }

  turn : (m : ℕ) (s : Held) → m < i.n → Upto m s → Upto (m + 1) (particle_made i m s)
  unfolding particle_made
  turn m s l u = pick (eqb (column_at m) unloaded) refl
    where
      pick : (t : Bool) → eqb (column_at m) unloaded ≡ t → Upto (m + 1) (particle_made i m s)
      pick true e = rw e (passed m s (eqb-true _ _ e) u)
      pick false e = rw e (turned m s (l, eqb-false _ _ e) u)

  pub made_is : Upto i.n (made i)
  unfolding made
  made_is = over_holds Upto (particle_made i) 0 i.n (begun i) (omega arith) before (λ m s _ l u. turn m s l u)

  -- THE COLUMNS
  pub columns_hold : (p k : ℕ) → Loaded i p → k < 2 → column_of i.n (made i).columns (column_at p) k ≡ solution i p k
  columns_hold p k is g =
      let room = column_inside i.n (column_at p) k i.loaded (has.numbered.inside p is.0 is.1) g in
      column_of_lem i.n (made i).columns (column_at p) k (solution i p k) (solution_long i p k)
      (omega (arith, room, made_is.long, has.room)) (made_is.parts p k is.0 is g)
