-- What follows of specs/Mirrors.antt: its theorems, apart from the definitions.
use Prim.Native.Nat.{ℕ, zero, suc, ◌+◌, ◌*◌, ◌≤◌, ◌<◌}
use Rattle.std.specs.Prelude.{◌≡◌, Bool, true, false, cond, List, leb, ltb, eqb, get_or, Float}
use Rattle.std.proofs.Math.Path.{refl}
use Rattle.std.proofs.Common.{ap, sym, ◌∙◌, add-zero, leb-true, ltb-true, eqb-true, le-leb, lt-ltb, eq-eqb, ne_eqb}
use Rattle.std.proofs.Math.Logic.{⊎_elim}
use native.Mathlib.Omega.{arith}
use Rattle.std.proofs.Math.ListN.{length}
use Rattle.std.specs.Float.Ieee.{nan}
use Rattle.std.proofs.lemmas.Bool.{eqb-false}
use Rattle.law.proofs.Loop.{climbing}
use Rattle.law.specs.Limit.{absent}
use Rattle.law.specs.Find.{find, find_first}
use Rattle.law.specs.Truth.{both, and_true, below_or}
use Rattle.law.specs.Store.{drop_written, written_long}
use Rattle.law.specs.Mix.{mix, Holds}
use Rattle.law.proofs.Mix.{part_new, part_else, part_kept, mix_of}
use Rattle.plane.specs.Plane.{Block}
use Rattle.plane.specs.Lent.{flat, block_at, with_block}
use Rattle.matrix_shape.specs.Formed.{InRow}
use Rattle.matrix_shape.specs.Rows.{at, Pattern, row_end, row_of, one_slot}
use Rattle.matrix_shape.specs.Index.{index_of, Slots, line_of, index_is}
use Rattle.matrix_values.specs.Blocks.{zero_block, identity}
use Rattle.matrix_pinned.specs.Dirichlet.{in_row, pinned_at, pinned}
use Rattle.matrix_pinned.specs.Mirrors.{Cross, Crossed, Facing, crossed, mirror_of, slot}

-- the same as a turn's code has it: q is the mirror, t and u are the blocks after the first store and after the second
pub crossed_is : (starts cols : List ℕ) (row k : ℕ) (l : List Float) (q : ℕ) (t u : List Float) → q ≡ mirror_of starts cols row k
    → t ≡ with_block l k zero_block → u ≡ with_block t q zero_block
    → u ≡ crossed starts cols row k l
unfolding crossed
crossed_is starts cols row k l q t u e f g = rw (g, f, e)

module _ (starts cols diagonal : List ℕ) (c row : ℕ) (f : Facing starts cols diagonal c row) where
  -- the columns rise, so the slot is the first of those from a to b, if it is one of them
  only : (a b : ℕ) → at starts c ≤ a → b ≤ at starts (c + 1) → a ≤ (slot starts cols diagonal c row f) → (slot starts cols diagonal c row f) < b → find (λ k. eqb (at cols k) row) a b absent ≡ (slot starts cols diagonal c row f)
  only a b g h u v =
      find_first (λ k. eqb (at cols k) row) absent a b (slot starts cols diagonal c row f) u v (eq-eqb _ _ f.stored.1.1)
      (λ j m i. ne_eqb (at cols j) row (λ q. omega (
        arith,
        f.stored.1.1,
        climbing (at cols) (at starts c) (at starts (c + 1)) f.line.strict j
            (slot starts cols diagonal c row f) (omega arith) i f.stored.1.0.1,
      )))

  index : index_of (at starts) (at cols) c row ≡ (slot starts cols diagonal c row f)
  unfolding index_of
  index = only (at starts c) (at starts (c + 1)) (omega arith) (omega arith) f.stored.1.0.0 f.stored.1.0.1

  pub upper : c < row → find (λ k. eqb (at cols k) row) (at diagonal c + 1) (at starts (c + 1)) absent ≡ index_of (at starts) (at cols) c row
  upper l =
      let h = f.home in
      let u : at diagonal c + 1 ≤ (slot starts cols diagonal c row f) =
      ⊎_elim (λ (g : at diagonal c < (slot starts cols diagonal c row f)). omega arith)
      (λ (g : (slot starts cols diagonal c row f) ≤ at diagonal c). absurd
      (⊎_elim (λ i. omega (
        arith,
        f.stored.1.1,
        h.1,
        climbing (at cols) (at starts c) (at starts (c + 1)) f.line.strict (slot starts cols diagonal c row f)
            (at diagonal c) f.stored.1.0.0 i h.0.1,
      )) (λ i. let e : (slot starts cols diagonal c row f) ≡ at diagonal c = omega arith in omega
      (arith, f.stored.1.1, h.1, ap (at cols) e)) (below_or (slot starts cols diagonal c row f) (at diagonal c)))) (below_or (at diagonal c) (slot starts cols diagonal c row f)) in
      only (at diagonal c + 1) (at starts (c + 1)) (omega (arith, h.0.0)) (omega arith) u f.stored.1.0.1 ∙ sym index

  pub lower : row ≤ c → find (λ k. eqb (at cols k) row) (at starts c) (at diagonal c + 1) absent ≡ index_of (at starts) (at cols) c row
  lower l =
      let h = f.home in
      let u : (slot starts cols diagonal c row f) < at diagonal c + 1 =
      ⊎_elim (λ (g : at diagonal c < (slot starts cols diagonal c row f)). absurd
      (omega (
        arith,
        f.stored.1.1,
        h.1,
        climbing (at cols) (at starts c) (at starts (c + 1)) f.line.strict (at diagonal c) (slot starts cols diagonal c row f)
            h.0.0 g f.stored.1.0.1,
      ))) (λ (g : (slot starts cols diagonal c row f) ≤ at diagonal c). omega arith) (below_or (at diagonal c) (slot starts cols diagonal c row f)) in
      only (at starts c) (at diagonal c + 1) (omega arith) (omega (arith, h.0.1)) f.stored.1.0.0 u ∙ sym index

  -- the slots of either half can be searched
  pub upper_slots : at starts (c + 1) ≤ absent → Slots cols (at diagonal c + 1) (at starts (c + 1))
  upper_slots few = record {
    order = omega (arith, f.home.0.1);
    columns = f.line.columns;
    few = few;
    strict = λ k h g. f.line.strict k (omega (arith, f.home.0.0)) g;
  }

  pub lower_slots : at starts (c + 1) ≤ absent → Slots cols (at starts c) (at diagonal c + 1)
  lower_slots few = record {
    order = omega (arith, f.home.0.0);
    columns = omega (arith, f.home.0.1, f.line.columns);
    few = omega (arith, f.home.0.1);
    strict = λ k h g. f.line.strict k h (omega (arith, f.home.0.1));
  }

-- before the first turn
pub cross_none : (starts cols : List ℕ) (n row : ℕ) (l : List Float) → Crossed starts cols n row l (at starts row) l
cross_none starts cols n row l = record {
  long = refl;
  rest = refl;
  slots = λ j h g. absurd (omega arith);
  mirrors = λ j h g. absurd (omega arith);
  others = λ j f g i h. refl;
}

-- a block as defined, by its two tests: it is the row's, it has the row's column
abbrev defined : List Float → ℕ → Bool → Bool → Block
defined l j a b = cond a (cond b identity zero_block) (cond b zero_block (block_at l j))

by_tests : (starts cols : List ℕ) (row : ℕ) (l : List Float) (j : ℕ) (a b : Bool) → in_row starts row j ≡ a → eqb (at cols j) row ≡ b
    → pinned_at starts cols row l j ≡ defined l j a b
unfolding pinned_at
by_tests starts cols row l j a b e f = rw (e, f)

-- a block's four numbers, one by one
pub as_flat : (l : List Float) (j i : ℕ) → i < 4 → get_or l (4 * j + i) nan ≡ get_or (flat (block_at l j)) i nan
as_flat l j zero h = rw add-zero
as_flat l j (suc zero) h = refl
as_flat l j (suc (suc zero)) h = refl
as_flat l j (suc (suc (suc zero))) h = refl
as_flat l j (suc (suc (suc (suc i)))) h = absurd (omega arith)

module _ (n : ℕ) (starts cols diagonal : List ℕ) (p : Pattern n starts cols diagonal) (row : ℕ) (below : row < n) where
  slot_room : (k : ℕ) → InRow (at starts) row k → k < at starts n
  slot_room k i = omega (arith, i.1, row_end n (at starts) p.formed.rise row below)

  -- the mirror is a slot, and has the row's column
  mirror_is : (k : ℕ) → InRow (at starts) row k → (mirror_of starts cols row k < at starts n) × (at cols (mirror_of starts cols row k) ≡ row)
  mirror_is k i =
      let c : at cols k < n = p.formed.below row k below i in
      let w = p.formed.mirrored row (at cols k) below (k, (i, refl)) in
      let e : mirror_of starts cols row k ≡ w.0 = index_is n _ _ _ _ p.formed (at cols k) c w.0 row w.1.0 w.1.1 in
      rw e (omega (arith, w.1.0.1, row_end n (at starts) p.formed.rise (at cols k) c), w.1.1)

  pub cross_at : (k : ℕ) → InRow (at starts) row k → (l : List Float) → 4 * at starts n ≤ length l → Cross starts cols diagonal row k l
  cross_at k i l room =
      let h = slot_room k i in
      let c = p.formed.below row k below i in
      record {
        column = omega (arith, p.held.columns);
        facing = record {
          line = line_of n starts cols diagonal p (at cols k) c;
          mark = omega (arith, p.held.marks);
          home = p.formed.home (at cols k) c;
          stored = p.formed.mirrored row (at cols k) below (k, (i, refl));
        };
        slot = omega arith;
        mirror = omega (arith, (mirror_is k i).0);
      }

  module _ (l : List Float) (room : 4 * at starts n ≤ length l) where
    -- one slot of the pattern that is the row's or has its column, set to zero
    one : (k : ℕ) (t : List Float) → Crossed starts cols n row l k t → (q : ℕ) → q < at starts n
        → ((j : ℕ) → (InRow (at starts) row j → ⊥) → (at cols j ≡ row → ⊥) → j ≡ q → ⊥)
        → Crossed starts cols n row l k (with_block t q zero_block)
    one k t c q h touched =
        let fits : 4 * q + 4 ≤ length t = omega (arith, c.long) in
        record {
          long = written_long t (4 * q) (flat zero_block) _ refl ∙ c.long;
          rest = drop_written (4 * at starts n) t (4 * q) (flat zero_block) (omega arith) ∙ c.rest;
          slots = λ j a b. part_kept 4 nan t q (flat zero_block) j refl fits (c.slots j a b);
          mirrors = λ j a b. part_kept 4 nan t q (flat zero_block) (mirror_of starts cols row j) refl fits (c.mirrors j a b);
          others = λ j a b i g. part_else 4 nan t q (flat zero_block) j refl (touched j a b) i g ∙ c.others j a b i g;
        }

    -- one turn more: t is the blocks before it, u after it
    pub cross_more : (k : ℕ) (t u : List Float) → InRow (at starts) row k → Crossed starts cols n row l k t → u ≡ crossed starts cols row k t
        → Crossed starts cols n row l (k + 1) u
    unfolding crossed
    cross_more k t u i c e =
        let m = mirror_is k i in
        let q = mirror_of starts cols row k in
        let v = with_block t k zero_block in
        let first = one k t c k (slot_room k i) (λ j a b g. a (rw g i)) in
        let second = one k v first q m.0 (λ j a b g. b (rw g m.1)) in
        let fits : 4 * q + 4 ≤ length v = omega (arith, first.long, m.0) in
        let here : Holds 4 nan v k (flat zero_block) = part_new 4 nan t k (flat zero_block) refl (omega (arith, c.long, slot_room k i)) in
        rw e (record {
          long = second.long;
          rest = second.rest;
          slots = λ j a b. ⊎_elim (λ g. second.slots j a g)
              (λ g. let s : j ≡ k = omega arith in rw s (part_kept 4 nan v q (flat zero_block) k refl fits here)) (below_or j k);
          mirrors = λ j a b. ⊎_elim (λ g. second.mirrors j a g)
              (λ g. let s : j ≡ k = omega arith in rw s (part_new 4 nan v q (flat zero_block) refl fits)) (below_or j k);
          others = second.others;
        })

    module _ (t : List Float) (c : Crossed starts cols n row l (at starts (row + 1)) t) where
      -- a block outside the row that has its column is the mirror of one of the row's
      outside : (j : ℕ) → j < at starts n → (InRow (at starts) row j → ⊥) → at cols j ≡ row → Holds 4 nan t j (flat zero_block)
      outside j h out e =
          let r = row_of (at starts) j n (omega (arith, p.formed.begins)) h in
          let w = p.formed.mirrored r.0 row r.1.0 (j, (r.1.1, e)) in
          let k = w.0 in
          let same : mirror_of starts cols row k ≡ j = rw w.1.1 (index_is n _ _ _ _ p.formed r.0 r.1.0 j row r.1.1 e) in
          rw same at (c.mirrors k w.1.0.0 w.1.0.1)

      -- after the diagonal's store each block is as defined
      each : (j : ℕ) → j < at starts n → Holds 4 nan (with_block t (at diagonal row) identity) j (pinned starts cols row l j)
      unfolding pinned
      each j h = pick (in_row starts row j) (eqb (at cols j) row) refl refl
        where
          d : ℕ
          d = at diagonal row

          home : InRow (at starts) row d × (at cols d ≡ row)
          home = p.formed.home row below

          else : (v : List Float) → (j ≡ d → ⊥) → Holds 4 nan t j v → Holds 4 nan (with_block t d identity) j v
          else v ne g i f = part_else 4 nan t d (flat identity) j refl ne i f ∙ g i f

          inside : in_row starts row j ≡ true → InRow (at starts) row j
          inside e = let b = both (leb (at starts row) j) (ltb j (at starts (row + 1))) e in (leb-true _ _ b.0, ltb-true _ _ b.1)

          out : in_row starts row j ≡ false → InRow (at starts) row j → ⊥
          out e i = let e' : in_row starts row j ≡ true = and_true _ _ (le-leb _ _ i.0) (lt-ltb _ _ i.1) in let z : ◌≡◌ {A = ℕ} 0 1 = cc in omega arith

          told : (a b : Bool) → in_row starts row j ≡ a → eqb (at cols j) row ≡ b
              → Holds 4 nan (with_block t d identity) j (flat (defined l j a b)) → Holds 4 nan (with_block t d identity) j (flat (pinned_at starts cols row l j))
          told a b e f g i h = g i h ∙ ap (λ (m : Block). get_or (flat m) i nan) (sym (by_tests starts cols row l j a b e f))

          pick : (a b : Bool) → in_row starts row j ≡ a → eqb (at cols j) row ≡ b → Holds 4 nan (with_block t d identity) j
              (flat (pinned_at starts cols row l j))
          pick true true e f =
              let s : j ≡ d = one_slot n _ _ _ _ p.formed row below j d (inside e) home.0 (eqb-true _ _ f ∙ sym home.1) in
              told true true e f (rw s (part_new 4 nan t d (flat identity) refl (omega (arith, c.long, slot_room d home.0))))
          pick true false e f = told true false e f (else (flat zero_block) (λ s. eqb-false _ _ f (ap (at cols) s ∙ home.1))
              (c.slots j (inside e).0 (inside e).1))
          pick false true e f = told false true e f (else (flat zero_block) (λ s. out e (rw s home.0)) (outside j h (out e) (eqb-true _ _ f)))
          pick false false e f = told false false e f (else (flat (block_at l j)) (λ s. out e (rw s home.0))
              (λ i g. c.others j (out e) (eqb-false _ _ f) i g ∙ as_flat l j i g))

      -- and the whole is the definition's
      pub pinned_is : (u : List Float) → u ≡ with_block t (at diagonal row) identity → u ≡ mix 4 (at starts n) (pinned starts cols row l) l
      unfolding pinned
      pinned_is u e =
          let d = at diagonal row in
          let h = slot_room d (p.formed.home row below).0 in
          e ∙ mix_of 4 nan (pinned starts cols row l) (λ j. refl) (at starts n) l (with_block t d identity)
          (omega (arith, written_long t (4 * d) (flat identity) _ refl, c.long)) each (drop_written (4 * at starts n) t (4 * d) (flat identity)
          (omega arith) ∙ c.rest)
