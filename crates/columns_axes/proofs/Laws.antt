-- WHAT THE CALLS LEAVE, over plain variables: one column and a particle's two. Nothing is asked of the lists between two solves but their lengths.
use Prim.Native.Nat.{ℕ, zero, suc, ◌+◌, ◌*◌, ◌-◌, ◌≤◌, ◌<◌}
use mathlib.Core.Path.{◌≡◌, refl, sym, ap, ◌∙◌}
use mathlib.Core.Bool.{cond}
use mathlib.Core.List.{List, [], ◌∷◌, ◌++◌, append_assoc}
use native.Mathlib.Omega.{arith}
use native.Mathlib.Nat.{mul-le-mul_right}
use lib.Dec.{eqb}
use lib.ListN.{length, take, drop}
use lib.Seq.{sets-eq, drop-drop}
use lib.Ieee.{Float}
use borrow.Author.Tests.{ne_eqb, eq-eqb}
use Rattle.law.specs.Limit.{unloaded}
use Rattle.law.specs.Store.{written, written_long, length_part}
use Rattle.law.specs.Loop.{fold, over}
use Rattle.plane.specs.Plane.{zero32, one32}
use Rattle.matrix_shape.specs.Rows.{at}
use Rattle.std.specs.Prelude.{Ok}
use Rattle.step_entries.specs.Lent.{entered}
use Rattle.step_tally.specs.declared.Tally.{Tally}
use Rattle.step_tally.specs.Count.{counted_of}
use Rattle.step_response.specs.declared.Responded.{Responded}
use Rattle.step_response.specs.Responding as R
use Rattle.step_counts.specs.Counting.{asked_by}
use Rattle.columns_table.specs.Columns.{start_of, column_of, column_inside}
use Rattle.columns_axes.specs.Axes.{In, Held, given, handed_system, handed_table, held, axis_of, after_axis, axis_made, particle_made, Ready, solvable_for}

-- a part of a buffer handed back
back : {A : Type 0} (l v : List A) (a b : ℕ) → a ≤ b → b ≤ length l → length v ≡ b - a → take a l ++ (v ++ drop (b - a) (drop a l)) ≡ written l a v
unfolding written
back {A} l v a b h g e =
    let q : a + (b - a) ≡ a + length v = omega arith in
    sym (sets-eq v l a (omega arith) ∙ append_assoc (take a l) v (drop (a + length v) l)
    ∙ ap (λ (t : List A). take a l ++ (v ++ t)) (sym (drop-drop (b - a) a l ∙ ap (λ (j : ℕ). drop j l) q)))

-- the lists of y are as long as those of x
pub record Alike (x y : Held) : Type 0 where
  pub columns : length y.columns ≡ length x.columns
  pub rhs : length y.rhs ≡ length x.rhs
  pub scratch : length y.scratch ≡ length x.scratch
  pub residual : length y.residual ≡ length x.residual
  pub direction : length y.direction ≡ length x.direction
  pub a_direction : length y.a_direction ≡ length x.a_direction
  pub z : length y.z ≡ length x.z

-- ---- one column

module _ (i : In) (y : Ready i) where
  -- the lists as they are handed over, and the call's own record
  abbrev pub start : Tally → Held
  start own = held i.columns i.rhs i.scratch i.residual i.direction i.a_direction i.z i.tally own

  -- particle p's column along axis k: w is its number, as the code reads it
  module _ (p k w : ℕ) (e : w ≡ at i.column_of p) (l : at i.column_of p < i.loaded) (g : k < 2) where
    pub in_buffer : start_of i.n w k + 2 * i.n ≤ length i.columns
    in_buffer = omega (arith, column_inside i.n w k i.loaded (rw e l) g, y.room)

    -- so that no start overflows
    pub small : (2 * w + k) * i.n ≤ 32768
    small = omega (arith, mul-le-mul_right i.n below, y.solvable.iterable.few)
      where
        below : 2 * w + k ≤ 32
        below = omega (arith, y.numbered.few)

    -- the response with the one entry: f is its gradient, o the column's part of the buffer
    abbrev pub response : List Float → List Float → R.In
    response f o = R.given (handed_system i) i.pinned (entered 1 (p ∷ []) f) o i.rhs i.scratch i.residual i.direction i.a_direction i.z

    long : length (column_of i.n i.columns w k) ≡ (start_of i.n w k + 2 * i.n) - start_of i.n w k
    long = length_part (start_of i.n w k) (start_of i.n w k + 2 * i.n) i.columns (omega arith) in_buffer

    pub response_ready : (u v : Float) → p < i.n → R.Ready (response (u ∷ v ∷ []) (column_of i.n i.columns w k))
    response_ready u v h = record {
      solvable = solvable_for _ i.rhs _ i.scratch i.residual i.direction i.a_direction i.z y.solvable y.solvable.iterable.b
          (omega (arith, long)) refl refl refl refl refl;
      entered = record { few = omega arith; marks = y.marks; names = omega arith; parts = omega arith; inside = one };
    }
      where
        one : (j : ℕ) → j < 1 → at (p ∷ []) j < i.n
        one j t = let z : j ≡ 0 = omega arith in rw z h

    unit_is : (u v : Float) → u ≡ cond (eqb k 0) one32 zero32 → v ≡ cond (eqb k 1) one32 zero32 → u ∷ v ∷ [] ≡ axis_of k
    unit_is u v a b = rw (a, b) (pick k g)
      where
        pick : (j : ℕ) → j < 2 → cond (eqb j 0) one32 zero32 ∷ cond (eqb j 1) one32 zero32 ∷ [] ≡ axis_of j
        pick zero t = refl
        pick (suc zero) t = refl
        pick (suc (suc j)) t = absurd (omega arith)

    pub columns_long : (o : List Float) → length o ≡ length (column_of i.n i.columns w k)
        → length (take (start_of i.n w k) i.columns ++ (o ++ drop ((start_of i.n w k + 2 * i.n) - start_of i.n w k)
        (drop (start_of i.n w k) i.columns))) ≡ length i.columns
    columns_long o q =
        written_long i.columns (start_of i.n w k) o _
        (back i.columns o (start_of i.n w k) (start_of i.n w k + 2 * i.n) (omega arith) in_buffer (q ∙ long))

    -- what it leaves: o is the column's part then, lent and own are the two records
    pub axis_is : (u v : Float) (how : Responded) (o h s r d a z : List Float) (t lent own : Tally) → u ≡ cond (eqb k 0) one32 zero32
        → v ≡ cond (eqb k 1) one32 zero32 → length o ≡ length (column_of i.n i.columns w k)
        → R.left (Ok how) o h s r d a z ≡ R.work (response (u ∷ v ∷ []) (column_of i.n i.columns w k))
        → (lent ≡ counted_of i.tally (asked_by (Ok how))) × (own ≡ counted_of t (asked_by (Ok how)))
        → held (take (start_of i.n w k) i.columns ++ (o ++ drop ((start_of i.n w k + 2 * i.n) - start_of i.n w k)
        (drop (start_of i.n w k) i.columns))) h s r d a z lent own ≡ axis_made i p k (start t)
    unfolding axis_made
    axis_is u v how o h s r d a z t lent own eu ev q f m =
        let c = back i.columns o (start_of i.n w k) (start_of i.n w k + 2 * i.n) (omega arith) in_buffer (q ∙ long) in
        rw (c, m.0, m.1)
        (ap (after_axis (start t) (start_of i.n w k)) (f ∙ ap (λ (x : List Float). R.work (response x (column_of i.n i.columns w k))) (unit_is u v eu ev))
        ∙ ap (λ (x : ℕ). after_axis (start t) (start_of i.n x k) (R.work (response (axis_of k) (column_of i.n i.columns x k)))) e)

  -- ---- the lists between two solves: c h s r d a z are as long as those before

  module _ (c h s r d a z : List Float) (t : Tally) where
    abbrev pub onward : In
    onward = given (handed_system i) (handed_table i) c h s r d a z t

    pub still_ready : length c ≡ length i.columns → length h ≡ length i.rhs → length s ≡ length i.scratch → length r ≡ length i.residual
        → length d ≡ length i.direction → length a ≡ length i.a_direction → length z ≡ length i.z → Ready onward
    still_ready ec eh es er ed ea ez = record {
      solvable = solvable_for _ h h s r d a z y.solvable (omega (arith, y.solvable.iterable.b)) (omega (arith, y.solvable.iterable.b)) es er
          ed ea ez;
      marks = y.marks;
      places = y.places;
      room = omega (arith, y.room);
      numbered = y.numbered;
    }

    -- what is made of given lists is the same
    pub same_axis : (p k : ℕ) (x : Held) → axis_made onward p k x ≡ axis_made i p k x
    unfolding axis_made
    same_axis p k x = refl

    pub same_particle : (p : ℕ) (x : Held) → particle_made onward p x ≡ particle_made i p x
    unfolding axis_made particle_made
    same_particle p x = refl

  pub both_axes : (p : ℕ) (x f : Held) → (at i.column_of p ≡ unloaded → ⊥) → f ≡ over (axis_made i p) 0 2 x → f ≡ particle_made i p x
  unfolding particle_made over fold
  both_axes p x f ne e = rw (ne_eqb (at i.column_of p) unloaded ne) e

  pub no_axis : (p : ℕ) (x : Held) → at i.column_of p ≡ unloaded → x ≡ particle_made i p x
  unfolding particle_made
  no_axis p x e = rw (eq-eqb (at i.column_of p) unloaded e)
