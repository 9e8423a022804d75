-- WHAT IS LOADED IS THE PERMUTED MATRIX (`loaded`). Assumes nothing.
use Prim.Native.Nat.{ℕ, zero, suc, ◌+◌, ◌-◌, ◌*◌, ◌/◌, ◌%◌, ◌≤◌, ◌<◌, zero-le}
use mathlib.Core.Path.{◌≡◌, refl, ap, sym, ◌∙◌}
use mathlib.Core.Bool.{Bool, true, false, true≢false}
use mathlib.Core.List.{List, []}
use mathlib.Core.Logic.{⊎_elim}
use native.Mathlib.Omega.{arith}
use native.Mathlib.Nat.{add-zero}
use borrow.Author.Tests.{lt-ltb, le-ltb}
use lib.ListN.{length, get_or, set, replicate, length-set, length-replicate, get_or-replicate}
use lib.Ieee.{Float, nan}
use Rattle.law.proofs.Loop.{over_holds}
use Rattle.law.specs.Truth.{below_or, same_or}
use Rattle.plane.specs.Plane.{x, y, c0, c1, zero32}
use Rattle.plane.specs.Lent.{block_at}
use Rattle.matrix_shape.specs.Formed.{InRow, WellFormed, stored, stored_is, stored_of}
use Rattle.matrix_shape.specs.Rows.{row_end, one_row}
use Rattle.matrix_shape.specs.Index.{index_of, index_is}
use Rattle.plan_fits.specs.Fits.{Fits}
use Rattle.plan_fits.specs.Cells.{Skyline, skyline_of, Cell, place, held, block_cell, look}
use Rattle.factor_load.specs.Load.{beside_of, corner_of, slot_into, slots_into, row_into, load_of}
use Rattle.factor_load.specs.Permuted.{Matrix, permuted}
use Rattle.factor_load.proofs.Look.{look_same, look_other}

module _ (n m : ℕ) (t c d o p f s : ℕ → ℕ) (formed : WellFormed n m t c d) (fits : Fits n t c o p f s) (blocks : List Float) where
  abbrev G : Matrix
  G = permuted t c blocks o

  sky : Skyline (2 * n) f s
  sky = skyline_of fits.planned

  -- the entries of the block in slot k of row r
  entries : (r k a b : ℕ) → r < n → InRow t r k → a < 2 → b < 2 → G (2 * p r + a) (2 * p (c k) + b) ≡ get_or (get_or (block_at blocks k) b []) a nan
  unfolding permuted
  entries r k a b l i u v =
      let q : (2 * p r + a) / 2 ≡ p r = omega arith in
      let w : (2 * p (c k) + b) / 2 ≡ p (c k) = omega arith in
      let e : (2 * p r + a) % 2 ≡ a = omega arith in
      let g : (2 * p (c k) + b) % 2 ≡ b = omega arith in
      rw (
        q,
        w,
        e,
        g,
        fits.planned.forth r l,
        fits.planned.forth (c k) (formed.below r k l i),
        stored_of t c r (c k) (k, (i, refl)),
        index_is n m
            t c d formed r l k (c k) i refl,
      )

  -- ---- a store of the matrix's own entry keeps every entry that is there already

  record Makes (v u : List Float) : Type 0 where
    long : length u ≡ s (2 * n)
    keeps : (i j : ℕ) → Cell (2 * n) f i j → look f s v i j ≡ G i j → look f s u i j ≡ G i j

  -- v with one entry more
  record Gains (v u : List Float) (i j : ℕ) : Type 0 where
    makes : Makes v u
    gives : look f s u i j ≡ G i j

  one : (v : List Float) → length v ≡ s (2 * n) → (i j q : ℕ) (e : Float) → Cell (2 * n) f i j → q ≡ place f s i j → e ≡ G i j → Gains v (set v q e) i j
  one v long i j q e cell spot is = rw spot (record {
    makes = record {
      long = length-set v (place f s i j) e ∙ long;
      keeps = λ a b y h. ⊎_elim (λ (g : a ≡ i). ⊎_elim (λ (z : b ≡ j). rw (g, z) here) (λ ne. other a b y (λ z. ne z.1) ∙ h) (same_or b j))
          (λ ne. other a b y (λ z. ne z.0) ∙ h) (same_or a i);
    };
    gives = here;
  })
    where
      here : look f s (set v (place f s i j) e) i j ≡ G i j
      here = look_same sky v long cell e ∙ is

      other : (a b : ℕ) → Cell (2 * n) f a b → ((a ≡ i) × (b ≡ j) → ⊥) → look f s (set v (place f s i j) e) a b ≡ look f s v a b
      other a b y ne = look_other sky v long cell e y ne

  module _ (r k : ℕ) (l : r < n) (i : InRow t r k) where
    abbrev off : ℕ
    off = 2 * p (c k) - f (2 * p r)

    cell : (a b : ℕ) → a < 2 → b < 2 → 2 * p (c k) + b ≤ 2 * p r + a → Cell (2 * n) f (2 * p r + a) (2 * p (c k) + b)
    cell a b u v g = block_cell fits r (c k) a b l (k, (i, refl)) u v g

    -- the block's entries in the triangle are the matrix's
    abbrev Gives : List Float → Type 0
    Gives u = (a b : ℕ) → a < 2 → b < 2 → 2 * p (c k) + b ≤ 2 * p r + a → look f s u (2 * p r + a) (2 * p (c k) + b) ≡ G (2 * p r + a) (2 * p (c k) + b)

    record Stores (v u : List Float) : Type 0 where
      makes : Makes v u
      gives : p (c k) ≤ p r → Gives u

    module _ (lower : p (c k) ≤ p r) (v : List Float) (long : length v ≡ s (2 * n)) where
      left : f (2 * p r) ≤ 2 * p (c k)
      left = fits.inside r (c k) l (k, (i, refl)) lower

      same : f (2 * p r) ≡ f (2 * p r + 1)
      same = fits.planned.same (p r) (fits.planned.position r l)

      at_00 : s (2 * p r) + off ≡ place f s (2 * p r + 0) (2 * p (c k) + 0)
      at_00 = rw (add-zero (2 * p r), add-zero (2 * p (c k)))

      at_01 : s (2 * p r) + off + 1 ≡ place f s (2 * p r + 0) (2 * p (c k) + 1)
      at_01 = rw (add-zero (2 * p r)) (omega (arith, left))

      at_10 : s (2 * p r + 1) + off ≡ place f s (2 * p r + 1) (2 * p (c k) + 0)
      at_10 = rw (add-zero (2 * p (c k))) (omega (arith, same))

      at_11 : s (2 * p r + 1) + off + 1 ≡ place f s (2 * p r + 1) (2 * p (c k) + 1)
      at_11 = omega (arith, left, same)

      -- each entry's store, into whatever stands there by then
      put_00 : (z : List Float) → length z ≡ s (2 * n) → Gains z (set z (s (2 * p r) + off) (x (c0 (block_at blocks k)))) (2 * p r + 0) (2 * p (c k) + 0)
      put_00 z h = one z h _ _ _ _ (cell 0 0 (omega arith) (omega arith) (omega arith)) at_00 (sym (entries r k 0 0 l i (omega arith) (omega arith)))

      put_01 : p (c k) < p r → (z : List Float) → length z ≡ s (2 * n) → Gains z (set z (s (2 * p r) + off + 1) (x (c1 (block_at blocks k))))
          (2 * p r + 0) (2 * p (c k) + 1)
      put_01 g z h = one z h _ _ _ _ (cell 0 1 (omega arith) (omega arith) (omega arith)) at_01 (sym (entries r k 0 1 l i (omega arith) (omega arith)))

      put_10 : (z : List Float) → length z ≡ s (2 * n) → Gains z (set z (s (2 * p r + 1) + off) (y (c0 (block_at blocks k)))) (2 * p r + 1) (2 * p (c k) + 0)
      put_10 z h = one z h _ _ _ _ (cell 1 0 (omega arith) (omega arith) (omega arith)) at_10 (sym (entries r k 1 0 l i (omega arith) (omega arith)))

      put_11 : (z : List Float) → length z ≡ s (2 * n) → Gains z (set z (s (2 * p r + 1) + off + 1) (y (c1 (block_at blocks k)))) (2 * p r + 1)
          (2 * p (c k) + 1)
      put_11 z h = one z h _ _ _ _ (cell 1 1 (omega arith) (omega arith) (omega arith)) at_11 (sym (entries r k 1 1 l i (omega arith) (omega arith)))

      beside : p (c k) < p r → Stores v (beside_of (block_at blocks k) (s (2 * p r) + off) (s (2 * p r + 1) + off) v)
      unfolding beside_of
      beside g =
          let e0 = put_00 v long in
          let e1 = put_01 g _ e0.makes.long in
          let e2 = put_10 _ e1.makes.long in
          let e3 = put_11 _ e2.makes.long in
          record {
            makes = record {
              long = e3.makes.long;
              keeps = λ a b z h. e3.makes.keeps a b z
                  (e2.makes.keeps a b z (e1.makes.keeps a b z (e0.makes.keeps a b z h)));
            };
            gives = λ _. four e0 e1 e2 e3;
          }
        where
          four : {z0 z1 z2 z3 z4 : List Float} → Gains z0 z1 (2 * p r + 0) (2 * p (c k) + 0) → Gains z1 z2 (2 * p r + 0) (2 * p (c k) + 1)
              → Gains z2 z3 (2 * p r + 1) (2 * p (c k) + 0) → Gains z3 z4 (2 * p r + 1) (2 * p (c k) + 1) → Gives z4
          four e0 e1 e2 e3 zero zero u h q = let z = cell 0 0 u h q in e3.makes.keeps _ _ z (e2.makes.keeps _ _ z (e1.makes.keeps _ _ z e0.gives))
          four e0 e1 e2 e3 zero (suc zero) u h q = let z = cell 0 1 u h q in e3.makes.keeps _ _ z (e2.makes.keeps _ _ z e1.gives)
          four e0 e1 e2 e3 zero (suc (suc b)) u h q = absurd (omega arith)
          four e0 e1 e2 e3 (suc zero) zero u h q = let z = cell 1 0 u h q in e3.makes.keeps _ _ z e2.gives
          four e0 e1 e2 e3 (suc zero) (suc zero) u h q = e3.gives
          four e0 e1 e2 e3 (suc zero) (suc (suc b)) u h q = absurd (omega arith)
          four e0 e1 e2 e3 (suc (suc a)) b u h q = absurd (omega arith)

      corner : p r ≤ p (c k) → Stores v (corner_of (block_at blocks k) (s (2 * p r) + off) (s (2 * p r + 1) + off) v)
      unfolding corner_of
      corner g =
          let e0 = put_00 v long in
          let e2 = put_10 _ e0.makes.long in
          let e3 = put_11 _ e2.makes.long in
          record {
            makes = record { long = e3.makes.long; keeps = λ a b z h. e3.makes.keeps a b z (e2.makes.keeps a b z (e0.makes.keeps a b z h)) };
            gives = λ _. three e0 e2 e3;
          }
        where
          three : {z0 z2 z3 z4 : List Float} → Gains z0 z2 (2 * p r + 0) (2 * p (c k) + 0) → Gains z2 z3 (2 * p r + 1) (2 * p (c k) + 0)
              → Gains z3 z4 (2 * p r + 1) (2 * p (c k) + 1) → Gives z4
          three e0 e2 e3 zero zero u h q = let z = cell 0 0 u h q in e3.makes.keeps _ _ z (e2.makes.keeps _ _ z e0.gives)
          three e0 e2 e3 zero (suc zero) u h q = absurd (omega arith)
          three e0 e2 e3 zero (suc (suc b)) u h q = absurd (omega arith)
          three e0 e2 e3 (suc zero) zero u h q = let z = cell 1 0 u h q in e3.makes.keeps _ _ z e2.gives
          three e0 e2 e3 (suc zero) (suc zero) u h q = e3.gives
          three e0 e2 e3 (suc zero) (suc (suc b)) u h q = absurd (omega arith)
          three e0 e2 e3 (suc (suc a)) b u h q = absurd (omega arith)

    slot_stores : (v : List Float) → length v ≡ s (2 * n) → Stores v (slot_into c blocks p (p r) (f (2 * p r)) (s (2 * p r)) (s (2 * p r + 1)) k v)
    unfolding slot_into
    slot_stores v long =
        ⊎_elim (λ g. rw (lt-ltb (p r) (p (c k)) g) (record { makes = record { long = long; keeps = λ a b z h. h }; gives = λ h. absurd (omega arith) }))
        (λ g. ⊎_elim (λ h. rw (le-ltb (p r) (p (c k)) g, lt-ltb (p (c k)) (p r) h) (beside g v long h))
        (λ h. rw (le-ltb (p r) (p (c k)) g, le-ltb (p (c k)) (p r) h) (corner g v long h)) (below_or (p (c k)) (p r)))
        (below_or (p r) (p (c k)))

  -- ---- the slots in turn

  -- the block of the entry isn't stored, or is stored in a slot before k
  abbrev Ready : ℕ → ℕ → ℕ → Type 0
  Ready k i j = stored t c (o (i / 2)) (o (j / 2)) ≡ true → index_of t c (o (i / 2)) (o (j / 2)) < k

  record Filled (k : ℕ) (v : List Float) : Type 0 where
    long : length v ≡ s (2 * n)
    has : (i j : ℕ) → Cell (2 * n) f i j → Ready k i j → look f s v i j ≡ G i j

  -- the slot of an entry whose block is stored
  record Home (i j k : ℕ) : Type 0 where
    row : o (i / 2) < n
    slot : InRow t (o (i / 2)) k
    column : c k ≡ o (j / 2)
    is : index_of t c (o (i / 2)) (o (j / 2)) ≡ k

  home : (i j : ℕ) → i < 2 * n → stored t c (o (i / 2)) (o (j / 2)) ≡ true → (k : ℕ) × Home i j k
  home i j l e =
      let w = stored_is t c (o (i / 2)) (o (j / 2)) e in
      let h = fits.planned.particle (i / 2) (omega arith) in
      (w.0, record { row = h; slot = w.1.0; column = w.1.1; is = index_is n m t c d formed (o (i / 2)) h w.0 (o (j / 2)) w.1.0 w.1.1 })

  slot_fills : (r k : ℕ) → r < n → InRow t r k → (v : List Float) → Filled k v
      → Filled (k + 1) (slot_into c blocks p (p r) (f (2 * p r)) (s (2 * p r)) (s (2 * p r + 1)) k v)
  slot_fills r k l w v z = record { long = st.makes.long; has = λ i j e ready. by i j e ready (stored t c (o (i / 2)) (o (j / 2))) refl }
    where
      u : List Float
      u = slot_into c blocks p (p r) (f (2 * p r)) (s (2 * p r)) (s (2 * p r + 1)) k v

      st : Stores r k l w v u
      st = slot_stores r k l w v z.long

      -- an entry of this very block
      own : (i j : ℕ) → Cell (2 * n) f i j → Home i j k → look f s u i j ≡ G i j
      own i j e h =
          let row : o (i / 2) ≡ r = one_row n t formed.rise (o (i / 2)) r k h.row l h.slot w in
          let pr : p r ≡ i / 2 = ap p (sym row) ∙ fits.planned.back (i / 2) (omega (arith, e.row)) in
          let pc : p (c k) ≡ j / 2 = ap p h.column ∙ fits.planned.back (j / 2) (omega (arith, e.row, e.upto)) in
          let ei : 2 * p r + i % 2 ≡ i = omega arith in
          let ej : 2 * p (c k) + j % 2 ≡ j = omega arith in
          rw (ei, ej) at (st.gives (omega (arith, e.upto)) (i % 2) (j % 2) (omega arith) (omega arith) (omega (arith, e.upto)))

      by : (i j : ℕ) → Cell (2 * n) f i j → Ready (k + 1) i j → (b : Bool) → stored t c (o (i / 2)) (o (j / 2)) ≡ b → look f s u i j ≡ G i j
      by i j e ready false q = st.makes.keeps i j e (z.has i j e (λ y. absurd (true≢false (sym y ∙ q))))
      by i j e ready true q =
          let h = home i j e.row q in
          ⊎_elim (λ g. st.makes.keeps i j e (z.has i j e (λ _. g)))
          (λ g. let same : h.0 ≡ k = omega (arith, h.1.is, ready q) in own i j e (rw same at h.1)) (below_or (index_of t c (o (i / 2)) (o (j / 2))) k)

  row_fills : (r : ℕ) → r < n → (v : List Float) → Filled (t r) v → Filled (t (r + 1)) (row_into t c blocks p f s r v)
  unfolding row_into slots_into
  row_fills r l v z =
      over_holds Filled (slot_into c blocks p (p r) (f (2 * p r)) (s (2 * p r)) (s (2 * p r + 1))) (t r) (t (r + 1)) v (formed.rise r l) z
      (λ k u h g q. slot_fills r k l (h, g) u q)

  blank : Filled (t 0) (replicate (s (2 * n)) zero32)
  unfolding permuted
  blank = record { long = length-replicate (s (2 * n)) zero32; has = λ i j e ready. by i j e ready (stored t c (o (i / 2)) (o (j / 2))) refl }
    where
      by : (i j : ℕ) → Cell (2 * n) f i j → Ready (t 0) i j → (b : Bool) → stored t c (o (i / 2)) (o (j / 2)) ≡ b
          → look f s (replicate (s (2 * n)) zero32) i j ≡ G i j
      by i j e ready false q = get_or-replicate (s (2 * n)) (place f s i j) zero32 nan (held sky e) ∙ rw q
      by i j e ready true q = absurd (omega (arith, ready q, formed.begins))

  filled : Filled (t n) (load_of n t c blocks p f s)
  unfolding load_of
  filled = over_holds (λ r v. Filled (t r) v) (row_into t c blocks p f s) 0 n (replicate (s (2 * n)) zero32) zero-le blank (λ r v h g z. row_fills r g v z)

  pub loaded_long : length (load_of n t c blocks p f s) ≡ s (2 * n)
  loaded_long = filled.long

  pub loaded : (i j : ℕ) → Cell (2 * n) f i j → look f s (load_of n t c blocks p f s) i j ≡ permuted t c blocks o i j
  loaded i j e =
      filled.has i j e (λ q.
      let h = (home i j e.row q).1 in
      omega (arith, h.is, h.slot.1, row_end n t formed.rise (o (i / 2)) h.row))
