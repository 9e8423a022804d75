-- THE MARKED ROWS' BLOCKS: pinning them leaves what `Pins` says (`marked_pins`), in whatever order they are taken (`any_order`), and nothing else
-- is so (`pins_only`).
use Rattle.std.specs.Prelude.{ℕ, ◌+◌, ◌*◌, ◌≤◌, ◌<◌, ◌≡◌, refl, Bool, true, false, cond, List, ◌⊎◌, leb, ltb, eqb, length, get_or, drop, Float}
use Rattle.std.proofs.Common.{ap, sym, ◌∙◌, inl, inr, arith, add-zero, leb-true, ltb-true, le-leb, lt-ltb, eq-eqb, ne_eqb}
use Rattle.std.proofs.Math.Logic.{⊎_elim}
use Rattle.std.proofs.Math.ListN.{get_or-append}
use Rattle.std.proofs.Math.Seq.{drop_at}
use Rattle.std.specs.Float.{nan}
use Rattle.law.specs.Loop.{over}
use Rattle.law.proofs.Loop.{over_holds}
use Rattle.law.specs.Gather.{gather}
use Rattle.law.proofs.Gather.{gather_at, up_to_even}
use Rattle.law.specs.Truth.{both, and_true, untrue, same_or, below_or}
use Rattle.law.specs.Mix.{mix}
use Rattle.law.proofs.Mix.{length_mix, length_parts, mix_of}
use Rattle.plane.specs.Plane.{Block}
use Rattle.plane.specs.Lent.{block_at, flat}
use Rattle.matrix_shape.specs.Formed.{InRow}
use Rattle.matrix_shape.specs.Rows.{at, Pattern, row_end, row_of, one_row, one_slot}
use Rattle.matrix_values.specs.Blocks.{zero_block, identity}
use Rattle.matrix_pinned.specs.Dirichlet.{in_row, pinned_at, pinned}
use Rattle.matrix_pinned.proofs.Mirrors.{as_flat}
use Rattle.matrix_pinned.specs.Marked.{pin_step, pinned_marked, Marked, Pins}

-- ---- a block of a buffer made of blocks

-- part k of the mix is what f says
part_at : (m : ℕ) (f : ℕ → List Float) → ((j : ℕ) → length (f j) ≡ 4) → (l : List Float) (k i : ℕ) → k < m → i < 4
    → get_or (mix 4 m f l) (4 * k + i) nan ≡ get_or (f k) i nan
part_at m f long l k i h g =
    let e : 4 * k + i < length (gather f 0 m) = omega (arith, length_parts 4 f long m) in
    let here : get_or (gather f 0 m) (4 * k + i) nan ≡ get_or (f k) i nan = rw (up_to_even f 4 long k) at (gather_at f m k i nan h (omega (arith, long k))) in
    get_or-append (gather f 0 m) (drop (4 * m) l) nan (4 * k + i) e ∙ here

block_at_lem : (m : ℕ) (f : ℕ → List Float) → ((j : ℕ) → length (f j) ≡ 4) → (l : List Float) (k : ℕ) → k < m → block_at (mix 4 m f l) k ≡ block_at (f k) 0
block_at_lem m f long l k h =
    let first : get_or (mix 4 m f l) (4 * k) nan ≡ get_or (f k) 0 nan = rw (add-zero (4 * k)) at (part_at m f long l k 0 h (omega arith)) in
    rw (
      first,
      part_at m f long l k 1 h (omega arith),
      part_at m f long l k 2 h (omega arith),
      part_at m f long l k 3 h (omega arith),
    )

-- ---- one row more

module _ (n : ℕ) (starts cols diagonal : List ℕ) (p : Pattern n starts cols diagonal) (l : List Float) (room : 4 * at starts n ≤ length l) where
  slot_room : (r k : ℕ) → r < n → InRow (at starts) r k → k < at starts n
  slot_room r k h i = omega (arith, i.1, row_end n (at starts) p.formed.rise r h)

  -- what is said of a set of rows is said of every set with the same rows
  pins_as : (P Q : ℕ → Type 0) (t : List Float) → ((r : ℕ) → r < n → P r → Q r) → ((r : ℕ) → r < n → Q r → P r) → Pins n starts cols diagonal P l t
      → Pins n starts cols diagonal Q l t
  pins_as P Q t to fro c = record {
    long = c.long;
    rest = c.rest;
    own = λ r h q. c.own r h (fro r h q);
    crossing = λ r k h i ne q. c.crossing r k h i ne (⊎_elim (λ g. inl (fro r h g)) (λ g. inr (fro (at cols k) (p.formed.below r k h i) g)) q);
    kept = λ r k h i f g. c.kept r k h i (λ q. f (to r h q)) (λ q. g (to (at cols k) (p.formed.below r k h i) q));
  }

  module _ (row : ℕ) (below : row < n) (t : List Float) (enough : 4 * at starts n ≤ length t) where
    abbrev after : List Float
    after = mix 4 (at starts n) (pinned starts cols row t) t

    -- a block by its two tests: it is the row's, it has the row's column
    by_tests : (r k : ℕ) (a b : Bool) → r < n → InRow (at starts) r k → in_row starts row k ≡ a → eqb (at cols k) row ≡ b
        → block_at after k ≡ block_at (flat (cond a (cond b identity zero_block) (cond b zero_block (block_at t k)))) 0
    unfolding pinned pinned_at
    by_tests r k a b h i e f = block_at_lem (at starts n) (pinned starts cols row t) (λ j. refl) t k (slot_room r k h i) ∙ rw (e, f)

    inside : (k : ℕ) → InRow (at starts) row k → in_row starts row k ≡ true
    inside k i = and_true _ _ (le-leb _ _ i.0) (lt-ltb _ _ i.1)

    outside : (r k : ℕ) → r < n → InRow (at starts) r k → (r ≡ row → ⊥) → in_row starts row k ≡ false
    outside r k h i ne = untrue (in_row starts row k) (λ e.
        let b = both (leb (at starts row) k) (ltb k (at starts (row + 1))) e in
        ne (one_row n (at starts) p.formed.rise r row k h below i (leb-true _ _ b.0, ltb-true _ _ b.1)))

    -- the four kinds of blocks
    its_own : (k : ℕ) → InRow (at starts) row k → at cols k ≡ row → block_at after k ≡ identity
    its_own k i e = by_tests row k true true below i (inside k i) (eq-eqb _ _ e)

    in_its_row : (k : ℕ) → InRow (at starts) row k → (at cols k ≡ row → ⊥) → block_at after k ≡ zero_block
    in_its_row k i ne = by_tests row k true false below i (inside k i) (ne_eqb _ _ ne)

    in_its_column : (r k : ℕ) → r < n → InRow (at starts) r k → (r ≡ row → ⊥) → at cols k ≡ row → block_at after k ≡ zero_block
    in_its_column r k h i ne e = by_tests r k false true h i (outside r k h i ne) (eq-eqb _ _ e)

    in_neither : (r k : ℕ) → r < n → InRow (at starts) r k → (r ≡ row → ⊥) → (at cols k ≡ row → ⊥) → block_at after k ≡ block_at t k
    in_neither r k h i ne f = by_tests r k false false h i (outside r k h i ne) (ne_eqb _ _ f)

    one_more : (P : ℕ → Type 0) → Pins n starts cols diagonal P l t → Pins n starts cols diagonal (λ r. P r ⊎ (r ≡ row)) l after
    unfolding pinned
    one_more P c = record {
      long = length_mix 4 (pinned starts cols row t) (λ j. refl) (at starts n) t enough ∙ c.long;
      rest = drop_at (gather (pinned starts cols row t) 0 (at starts n)) (drop (4 * at starts n) t) (4 * at starts n)
          (length_parts 4 (pinned starts cols row t) (λ j. refl) (at starts n)) ∙ c.rest;
      own = own;
      crossing = crossing;
      kept = λ r k h i f g. in_neither r k h i (λ e. f (inr e)) (λ e. g (inr e)) ∙ c.kept r k h i (λ q. f (inl q)) (λ q. g (inl q));
    }
      where
        own : (r : ℕ) → r < n → P r ⊎ (r ≡ row) → block_at after (at diagonal r) ≡ identity
        own r h q =
            let home = p.formed.home r h in
            ⊎_elim (λ (e : r ≡ row). its_own (at diagonal r) (rw (sym e) home.0) (home.1 ∙ e))
            (λ ne. in_neither r (at diagonal r) h home.0 ne (λ e. ne (sym home.1 ∙ e))
            ∙ c.own r h (⊎_elim (λ g. g) (λ e. absurd (ne e)) q)) (same_or r row)

        crossing : (r k : ℕ) → r < n → InRow (at starts) r k → (k ≡ at diagonal r → ⊥) → (P r ⊎ (r ≡ row)) ⊎ (P (at cols k) ⊎ (at cols k ≡ row))
            → block_at after k ≡ zero_block
        crossing r k h i ne q =
            let home = p.formed.home r h in
            let apart : at cols k ≡ r → ⊥ = λ e. ne (one_slot n _ _ _ _ p.formed r h k (at diagonal r) i home.0 (e ∙ sym home.1)) in
            ⊎_elim (λ (e : r ≡ row). in_its_row k (rw e at i) (λ f. apart (f ∙ sym e)))
            (λ (other : r ≡ row → ⊥). ⊎_elim (λ (e : at cols k ≡ row). in_its_column r k h i other e)
            (λ (f : at cols k ≡ row → ⊥). in_neither r k h i other f
            ∙ c.crossing r k h i ne (⊎_elim (λ a. ⊎_elim (λ g. inl g) (λ e. absurd (other e)) a) (λ a. ⊎_elim (λ g. inr g) (λ e. absurd (f e)) a) q))
            (same_or (at cols k) row)) (same_or r row)

  -- ---- all the rows that a sequence names

  module _ (marks : List ℕ) where
    -- a marked row that stands among the first c of the sequence
    abbrev Met : (ℕ → ℕ) → ℕ → ℕ → Type 0
    Met f c r = Marked marks r × ((i : ℕ) × ((i < c) × (f i ≡ r)))

    none_met : (f : ℕ → ℕ) → Pins n starts cols diagonal (Met f 0) l l
    none_met f = record {
      long = refl;
      rest = refl;
      own = λ r h q. absurd (omega (arith, q.1.1.0));
      crossing = λ r k h i ne q. absurd (⊎_elim (λ g. omega (arith, g.1.1.0)) (λ g. omega (arith, g.1.1.0)) q);
      kept = λ r k h i f g. refl;
    }

    met_more : (f : ℕ → ℕ) (c : ℕ) (t : List Float) → f c < n → Pins n starts cols diagonal (Met f c) l t
        → Pins n starts cols diagonal (Met f (c + 1)) l (pin_step n starts cols marks (f c) t)
    unfolding pin_step
    met_more f c t below h = ⊎_elim free marked (same_or (at marks (f c)) 0)
      where
        wider : (r : ℕ) → Met f c r → Met f (c + 1) r
        wider r q = (q.0, (q.1.0, (omega (arith, q.1.1.0), q.1.1.1)))

        -- one that is met now was met before, or is the last
        latest : (r : ℕ) → Met f (c + 1) r → Met f c r ⊎ (r ≡ f c)
        latest r q = ⊎_elim (λ g. inl (q.0, (q.1.0, (g, q.1.1.1))))
            (λ g. let e : q.1.0 ≡ c = omega (arith, q.1.1.0) in inr (sym q.1.1.1 ∙ ap f e)) (below_or q.1.0 c)

        free : at marks (f c) ≡ 0 → Pins n starts cols diagonal (Met f (c + 1)) l (pin_step n starts cols marks (f c) t)
        free z = rw (eq-eqb (at marks (f c)) 0 z) (pins_as (Met f c) (Met f (c + 1)) t (λ r g q. wider r q)
            (λ r g q. ⊎_elim (λ a. a) (λ e. absurd (q.0 (ap (at marks) e ∙ z))) (latest r q)) h)

        marked : Marked marks (f c) → Pins n starts cols diagonal (Met f (c + 1)) l (pin_step n starts cols marks (f c) t)
        marked m = rw (ne_eqb (at marks (f c)) 0 m) (pins_as (λ r. Met f c r ⊎ (r ≡ f c)) (Met f (c + 1)) _
            (λ r g q. ⊎_elim (λ a. wider r a) (λ e. (λ z. m (ap (at marks) (sym e) ∙ z), (c, (omega arith, sym e)))) q) (λ r g q. latest r q)
            (one_more (f c) below t (omega (arith, h.long)) (Met f c) h))

    -- rows in whatever order, any of them more than once, as long as each marked one is met
    pub in_sequence : (f : ℕ → ℕ) (count : ℕ) → ((i : ℕ) → i < count → f i < n)
        → ((r : ℕ) → r < n → Marked marks r → (i : ℕ) × ((i < count) × (f i ≡ r)))
        → Pins n starts cols diagonal (Marked marks) l (over (λ i. pin_step n starts cols marks (f i)) 0 count l)
    in_sequence f count below all =
        pins_as (Met f count) (Marked marks) _ (λ r h q. q.0) (λ r h m. (m, all r h m))
        (over_holds (λ c t. Pins n starts cols diagonal (Met f c) l t) (λ i. pin_step n starts cols marks (f i)) 0 count l (omega arith) (none_met f)
        (λ c t a h q. met_more f c t (below c h) q))

    -- THE DEFINITION MEANS THIS
    pub marked_pins : Pins n starts cols diagonal (Marked marks) l (pinned_marked n starts cols marks l)
    unfolding pinned_marked
    marked_pins = in_sequence (λ i. i) n (λ i h. h) (λ r h m. (r, (h, refl)))

    -- AND NOTHING ELSE DOES
    pub pins_only : (t : List Float) → Pins n starts cols diagonal (Marked marks) l t → t ≡ pinned_marked n starts cols marks l
    pins_only t c = go (pinned_marked n starts cols marks l) marked_pins
      where
        same : (u : List Float) → Pins n starts cols diagonal (Marked marks) l u → (k : ℕ) → k < at starts n → block_at t k ≡ block_at u k
        same u d k h =
            let at_row = row_of (at starts) k n (omega (arith, p.formed.begins)) h in
            let r = at_row.0 in
            let i = at_row.1.1 in
            let g = at_row.1.0 in
            let zeros : (k ≡ at diagonal r → ⊥) → Marked marks r ⊎ Marked marks (at cols k) → block_at t k ≡ block_at u k =
            λ ne q. c.crossing r k g i ne q ∙ sym (d.crossing r k g i ne q) in
            let home = p.formed.home r g in
            ⊎_elim (λ (e : k ≡ at diagonal r).
            ⊎_elim (λ (z : at marks r ≡ 0).
            let z' : at marks (at cols k) ≡ 0 = rw (e, home.1) z in
            c.kept r k g i (λ m. m z) (λ m. m z') ∙ sym (d.kept r k g i (λ m. m z) (λ m. m z')))
            (λ m. rw e (c.own r g m ∙ sym (d.own r g m))) (same_or (at marks r) 0))
            (λ ne. ⊎_elim (λ (z : at marks r ≡ 0).
            ⊎_elim (λ (z' : at marks (at cols k) ≡ 0). c.kept r k g i (λ m. m z) (λ m. m z') ∙ sym (d.kept r k g i (λ m. m z) (λ m. m z')))
            (λ m. zeros ne (inr m)) (same_or (at marks (at cols k)) 0)) (λ m. zeros ne (inl m)) (same_or (at marks r) 0)) (same_or k (at diagonal r))

        go : (u : List Float) → Pins n starts cols diagonal (Marked marks) l u → t ≡ u
        go u d =
            let f : ℕ → List Float = λ j. flat (block_at u j) in
            mix_of 4 nan f (λ j. refl) (at starts n) l t (omega (arith, c.long))
            (λ j h i g. as_flat t j i g ∙ ap (λ (m : Block). get_or (flat m) i nan) (same u d j h)) c.rest
            ∙ sym (mix_of 4 nan f (λ j. refl) (at starts n) l u (omega (arith, d.long)) (λ j h i g. as_flat u j i g) d.rest)

    -- so the order is all one
    pub any_order : (f : ℕ → ℕ) (count : ℕ) → ((i : ℕ) → i < count → f i < n)
        → ((r : ℕ) → r < n → Marked marks r → (i : ℕ) × ((i < count) × (f i ≡ r)))
        → over (λ i. pin_step n starts cols marks (f i)) 0 count l ≡ pinned_marked n starts cols marks l
    any_order f count below all = pins_only _ (in_sequence f count below all)
