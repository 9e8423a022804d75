-- The search's loop is the definition's, place by place.
use Prim.Native.Nat.{ℕ, zero, suc, ◌+◌, ◌-◌, ◌≤◌, ◌<◌}
use native.Mathlib.Omega.{arith}
use native.Mathlib.Nat.{add-zero, add-suc}
use native.Mathlib.Numerals.{add-one}
use mathlib.Core.Path.{◌≡◌, refl, sym, ap, ◌∙◌, subst}
use mathlib.Core.Logic.{◌⊎◌, inl, inr}
use mathlib.Core.Bool.{Bool, true, false, ◌&&◌, cond}
use mathlib.Core.List.{List, [], ◌∷◌}
use lib.ListN.{length, get_or, set, replicate}
use lib.Seq.{get_or-take, get_or-set_same, get_or-set_other, set_out, take-suc-set}
use lib.Dec.{eqb}
use borrow.Author.Tests.{lt-ltb, le-ltb, eqb-true, eqb-false}
use Rattle.law.specs.Truth.{below_or}
use Rattle.order_definition.specs.Order.{row, neighbours, Breadth, met, meet, meet_all, spread, reach}
use Rattle.order_definition.specs.Keys.{Below}
use Rattle.order_definition.specs.Marks.{unmarked}
use Rattle.order_definition.specs.Searches.{Searched, FreeAt, reach_of, meet_row}
use Rattle.order_definition.proofs.At.{get_d_at}
use Rattle.order_definition.proofs.Free.{Sound, short, reach_sound}
use Rattle.order_definition.proofs.Rows.{near, reaches, row_stored}
use Rattle.order_definition.proofs.Visiting.{in_below}
use Rattle.order_search.specs.declared.graph.Graph.{Graph}
use Rattle.order_search.specs.Graph.{beside, reached}

-- ---- levels are small

set_le : (l : List ℕ) (w v m x : ℕ) → ((y : ℕ) → get_or l y 0 ≤ m) → v ≤ m → get_or (set l w v) x 0 ≤ m
set_le l w v m x f le = go (eqb x w) refl (below_or w (length l))
  where
    go : (b : Bool) → eqb x w ≡ b → (w < length l) ⊎ (length l ≤ w) → get_or (set l w v) x 0 ≤ m
    go b p (inr out) = subst (λ (t : List ℕ). get_or t x 0 ≤ m) (sym (set_out l w v out)) (f x)
    go true p (inl lt) = let e = eqb-true x w p in subst (λ (y : ℕ). get_or (set l w v) y 0 ≤ m) (sym e)
        (subst (λ (k : ℕ). k ≤ m) (sym (get_or-set_same l w v 0 lt)) le)
    go false p (inl lt) = subst (λ (k : ℕ). k ≤ m) (sym (get_or-set_other l w x v 0 (eqb-false x w p))) (f x)

meet_all_le : (free : ℕ → Bool) (l m : ℕ) (r : Breadth) (ws : List ℕ) → ((y : ℕ) → get_or r.level y 0 ≤ m) → l ≤ m → (y : ℕ)
    → get_or (meet_all free l r ws).level y 0 ≤ m
meet_all_le free l m r [] f le y = f y
meet_all_le free l m r (w ∷ ws) f le y = meet_all_le free l m (meet free l r w) ws (one (free w && eqb (get_or r.level w 0) 0)) le y
  where
    one : (b : Bool) (y : ℕ) → get_or (cond b (met r w l) r).level y 0 ≤ m
    one true y = set_le r.level w l m y f le
    one false y = f y

module _ (nb : ℕ → List ℕ) (n : ℕ) (free : ℕ → Bool) (s : ℕ) where
  spread_yes : (r : Breadth) (h : ℕ) → h < length r.queue → spread nb free r h ≡ meet_all free (suc (get_or r.level (get_or r.queue h 0) 0)) r
      (nb (get_or r.queue h 0))
  spread_yes r h lt = rw (lt-ltb h (length r.queue) lt, spread)

  spread_no : (r : Breadth) (h : ℕ) → length r.queue ≤ h → spread nb free r h ≡ r
  spread_no r h le = rw (le-ltb h (length r.queue) le, spread)

  reach_level : (h x : ℕ) → get_or (reach nb n free s h).level x 0 ≤ suc h
  unfolding reach
  reach_level zero x = set_le (replicate n 0) s 1 1 x (λ y. zeros n y) (omega arith)
    where
      zeros : (n y : ℕ) → get_or (replicate n 0) y 0 ≤ 1
      zeros zero y = omega arith
      zeros (suc n) zero = omega arith
      zeros (suc n) (suc y) = zeros n y
  reach_level (suc h) x = go (below_or h (length (reach nb n free s h).queue)) (reach_level h)
    where
      go : (h < length (reach nb n free s h).queue) ⊎ (length (reach nb n free s h).queue ≤ h)
          → ((y : ℕ) → get_or (reach nb n free s h).level y 0 ≤ suc h) → get_or (spread nb free (reach nb n free s h) h).level x 0 ≤ suc (suc h)
      go (inr le) f = subst (λ (t : Breadth). get_or t.level x 0 ≤ suc (suc h)) (sym (spread_no (reach nb n free s h) h le)) (let p = f x in omega arith)
      go (inl lt) f =
          subst (λ (t : Breadth). get_or t.level x 0 ≤ suc (suc h)) (sym (spread_yes (reach nb n free s h) h lt))
          (meet_all_le free (suc (get_or (reach nb n free s h).level (get_or (reach nb n free s h).queue h 0) 0)) (suc (suc h)) (reach nb n free s h)
          (nb (get_or (reach nb n free s h).queue h 0)) (λ y. let p = f y in omega arith)
          (let p = f (get_or (reach nb n free s h).queue h 0) in omega arith) x)

  reach_more : (h : ℕ) → h < length (reach nb n free s h).queue
      → reach nb n free s (suc h) ≡ meet_all free (suc (get_or (reach nb n free s h).level (get_or (reach nb n free s h).queue h 0) 0))
      (reach nb n free s h) (nb (get_or (reach nb n free s h).queue h 0))
  unfolding reach
  reach_more h lt = spread_yes (reach nb n free s h) h lt

  reach_stay : (h j : ℕ) → length (reach nb n free s h).queue ≤ h → reach nb n free s (h + j) ≡ reach nb n free s h
  unfolding reach
  reach_stay h zero le = ap (λ (k : ℕ). reach nb n free s k) (add-zero h)
  reach_stay h (suc j) le =
      ap (λ (k : ℕ). reach nb n free s k) (add-suc h j)
      ∙ ap (λ (r : Breadth). spread nb free r (h + j)) (reach_stay h j le)
      ∙ spread_no (reach nb n free s h) (h + j) (omega arith)

-- ---- over a graph

-- a row holds particles
pub row_below : (g : Graph) (v : ℕ) → v < g.n → Below g.n (row g.row_offsets.now g.cols.now v)
row_below g v lt = in_below g.n (row g.row_offsets.now g.cols.now v) (λ w a. reaches g.n _ _ g.tight v w lt (row_stored g.n _ _ g.tight v w lt a))

module _ (g : Graph) (mark : List ℕ) (s : ℕ) (long : length mark ≡ g.n) (f : FreeAt mark s) where
  abbrev rch : ℕ → Breadth
  rch h = reach (beside g) g.n (unmarked mark) s h

  pub sound : (h : ℕ) → Sound (beside g) g.n (unmarked mark) (rch h)
  sound h = reach_sound (beside g) g.n (unmarked mark) (near g.n _ _ g.tight) s (omega (arith, f.below)) f.free h

  pub queue_short : (h : ℕ) → length (rch h).queue ≤ g.n
  queue_short h = short (beside g) g.n (unmarked mark) (rch h) (sound h)

  module _ (h len : ℕ) (queue level : List ℕ) (st : Searched (rch h) queue level len) where
    pub len_short : len ≤ g.n
    len_short = omega (arith, st.size, queue_short h)

    module _ (more : h < len) where
      whose : get_or queue h 0 ≡ get_or (rch h).queue h 0
      whose = sym (get_or-take len queue h 0 more) ∙ ap (λ (t : List ℕ). get_or t h 0) st.front

      pub v_below : get_or queue h 0 < g.n
      v_below = subst (λ (w : ℕ). w < g.n) (sym whose) ((sound h).below _ (h, get_d_at (rch h).queue h 0 (omega (arith, st.size))))

      pub level_small : get_or level (get_or queue h 0) 0 ≤ suc h
      level_small = subst (λ (t : List ℕ). get_or t (get_or queue h 0) 0 ≤ suc h) (sym st.levels)
          (reach_level (beside g) g.n (unmarked mark) s h (get_or queue h 0))

      pub row_step : (v : ℕ) → v ≡ get_or queue h 0 → meet_row (row g.row_offsets.now g.cols.now v) mark (get_or level v 0 + 1) v (reach_of queue level len) ≡ rch (h + 1)
      unfolding meet_row neighbours
      row_step v pv =
          let r : reach_of queue level len ≡ rch h = λ i. record { queue = st.front i; level = st.levels i } in
          let ev : v ≡ get_or (rch h).queue h 0 = pv ∙ whose in
          let el : get_or level v 0 + 1 ≡ suc (get_or (rch h).level (get_or (rch h).queue h 0) 0) = add-one (get_or level v 0)
          ∙ ap suc (ap (λ (t : List ℕ). get_or t v 0) st.levels ∙ ap (λ (w : ℕ). get_or (rch h).level w 0) ev) in
          ap (λ (t : Breadth). meet_all (unmarked mark) (get_or level v 0 + 1) t (beside g v)) r
          ∙ ap (λ (k : ℕ). meet_all (unmarked mark) k (rch h) (beside g v)) el
          ∙ ap (λ (w : ℕ). meet_all (unmarked mark) (suc (get_or (rch h).level (get_or (rch h).queue h 0) 0)) (rch h) (beside g w)) ev
          ∙ sym (reach_more (beside g) g.n (unmarked mark) s h (omega (arith, st.size)))
          ∙ ap rch (sym (add-one h))

      -- and the queue has room for those that are met
      pub row_room : (v : ℕ) → v ≡ get_or queue h 0 → length (meet_row (row g.row_offsets.now g.cols.now v) mark (get_or level v 0 + 1) v (reach_of queue level len)).queue
          ≤ g.n
      row_room v pv = rw (row_step v pv) (queue_short (h + 1))

    pub all_done : len ≤ h → h ≤ g.n → Searched (reached g mark s) queue level len
    all_done le ge =
        let e : h + (g.n - h) ≡ g.n = omega arith in
        let p : rch g.n ≡ rch h = ap rch (sym e) ∙ reach_stay (beside g) g.n (unmarked mark) s h (g.n - h) (omega (arith, st.size)) in
        subst (λ (r : Breadth). Searched r queue level len) (sym p) st

  pub begun : (queue level : List ℕ) → length queue ≡ g.n → level ≡ replicate g.n 0 → Searched (rch 0) (set queue 0 s) (set level s 1) 1
  unfolding reach
  begun queue level room e = record {
    size = refl;
    front = take-suc-set queue 0 s (omega (arith, f.below));
    levels = ap (λ (t : List ℕ). set t s 1) e;
  }
