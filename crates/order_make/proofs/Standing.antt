-- The order as it stands in the lent lists, step by step.
use Prim.Native.Nat.{ℕ, zero, suc, ◌+◌, ◌≤◌, ◌<◌}
use native.Mathlib.Omega.{arith}
use native.Mathlib.Numerals.{add-one}
use mathlib.Core.Path.{◌≡◌, refl, sym, ap, ◌∙◌, subst, fun_ext}
use mathlib.Core.Bool.{Bool, true, false, not, ◌||◌, cond}
use mathlib.Core.List.{List, [], ◌∷◌, ◌++◌}
use lib.ListN.{length, get_or, set, take, drop, replicate, length-append, length-set, length-replicate}
use lib.Seq.{get_or-take, get_or-set_same, get_or-set_other, take_at, take-suc-set, length-take-le}
use lib.Dec.{eqb}
use borrow.Author.Tests.{eqb-true, eqb-false, eq-eqb, lt-ltb, le-ltb}
use Rattle.order_definition.specs.Order.{among, passing, row, neighbours, degree, sorted, choose_start, start_after, fresh, filled, placing}
use Rattle.order_definition.specs.Keys.{key_of, Below}
use Rattle.order_definition.specs.Marks.{unmarked, mark_all, open_of, Visited, Stands}
use Rattle.order_definition.specs.Searches.{SomeFree}
use Rattle.order_definition.proofs.At.{get_d_at, In}
use Rattle.order_definition.proofs.Pigeon.{in_head, in_tail}
use Rattle.order_definition.proofs.Free.{some_unplaced}
use Rattle.order_definition.proofs.Placed.{Adding, placed_below, placed_few, placed_far, filled_below, filled_far}
use Rattle.order_definition.proofs.Rows.{adding}
use Rattle.order_definition.proofs.Sorting.{length_sort}
use Rattle.order_definition.proofs.Filling.{mark_all_append, length_mark_all}
use Rattle.order_start.proofs.Looking.{keys_are}
use Rattle.order_search.specs.declared.graph.Graph.{Graph}
use Rattle.order_search.specs.Graph.{beside}
use Rattle.order_search.proofs.Exploring.{row_below}
use Rattle.order_start.specs.declared.ranked.Ranked.{Ranked}
use Rattle.order_make.specs.Placing.{placed_to, filled_to}

-- ---- marks are what the list holds

mark_get : (o m : List ℕ) (w : ℕ) → ((x : ℕ) → In x o → x < length m) → get_or (mark_all m o) w 0 ≡ cond (among o w) 1 (get_or m w 0)
mark_get [] m w f = refl
mark_get (x ∷ o) m w f =
    mark_get o (set m x 1) w (λ y a. subst (λ (k : ℕ). y < k) (sym (length-set m x 1)) (f y (in_tail x o y a)))
    ∙ go (eqb x w) refl (among o w)
  where
    go : (b : Bool) → eqb x w ≡ b → (c : Bool) → cond c 1 (get_or (set m x 1) w 0) ≡ cond (b || c) 1 (get_or m w 0)
    go true p true = refl
    go true p false = ap (λ (k : ℕ). get_or (set m x 1) k 0) (sym (eqb-true x w p)) ∙ get_or-set_same m x 1 0 (f x (in_head x o x refl))
    go false p true = refl
    go false p false = get_or-set_other m x w 1 0 (λ (e : w ≡ x). eqb-false x w p (sym e))

zeros : (n w : ℕ) → get_or {A = ℕ} (replicate n 0) w 0 ≡ 0
zeros zero w = refl
zeros (suc n) zero = refl
zeros (suc n) (suc w) = zeros n w

marks_are : (n : ℕ) (o mark : List ℕ) → mark ≡ mark_all (replicate n 0) o → ((x : ℕ) → In x o → x < n) → unmarked mark ≡ (λ w. not (among o w))
marks_are n o mark e f = fun_ext each
  where
    zero_from : (c : Bool) (z : ℕ) → z ≡ 0 → eqb (cond c 1 z) 0 ≡ not c
    zero_from true z p = refl
    zero_from false z p = eq-eqb z 0 p

    each : (w : ℕ) → unmarked mark w ≡ not (among o w)
    each w =
        ap (λ (m : List ℕ). eqb (get_or m w 0) 0) e
        ∙ ap (λ (k : ℕ). eqb k 0) (mark_get o (replicate n 0) w (λ x a. subst (λ (k : ℕ). x < k) (sym (length-replicate n 0)) (f x a)))
        ∙ zero_from (among o w) (get_or (replicate n 0) w 0) (zeros n w)

-- ---- over a graph

module _ (r : Ranked) where
  abbrev g : Graph
  g = r.graph

  abbrev steps : Adding g.n (start_after (beside g) g.n) (fresh (beside g) g.n)
  steps = adding g.n _ _ g.tight

  below_placed : (h : ℕ) → h ≤ g.n → (x : ℕ) → In x (placed_to g h) → x < g.n
  below_placed = placed_below g.n _ _ steps

  below_filled : (h : ℕ) → h < g.n → (x : ℕ) → In x (filled_to g h) → x < g.n
  below_filled = filled_below g.n _ _ steps

  far_filled : (h : ℕ) → h < g.n → h < length (filled_to g h)
  far_filled = filled_far g.n _ _ steps

  few_placed : (h : ℕ) → h ≤ g.n → length (placed_to g h) ≤ g.n
  few_placed = placed_few g.n _ _ steps

  pub marks_long : (o order mark : List ℕ) (len : ℕ) → Stands g.n o order mark len → length mark ≡ g.n
  marks_long o order mark len st = ap length st.marks ∙ length_mark_all (replicate g.n 0) o ∙ length-replicate g.n 0

  -- ---- the stretch's start

  module _ (h len : ℕ) (order mark : List ℕ) (lt : h < g.n) (st : Stands g.n (placed_to g h) order mark len) where
    abbrev bare : unmarked mark ≡ (λ w. not (among (placed_to g h) w))
    bare = marks_are g.n (placed_to g h) mark st.marks (below_placed h (omega arith))

    pub stay : h < len → Stands g.n (filled_to g h) order mark len
    stay m = rw (lt-ltb h (length (placed_to g h)) (omega (arith, st.upto)), filled) st

    module _ (le : len ≤ h) where
      pub some_free : SomeFree mark
      some_free =
          let u = some_unplaced g.n (placed_to g h) (omega (arith, st.upto)) in
          record {
            one = u.0;
            is_free = record { below = omega (arith, u.1, marks_long _ _ _ _ st); free = ap (λ (f : ℕ → Bool). f u.0) bare ∙ ap not u.2 };
          }

      module _ (s : ℕ) (p : s ≡ choose_start (beside g) g.n (unmarked mark)) where
        start_is : s ≡ start_after (beside g) g.n (placed_to g h)
        start_is = p ∙ ap (choose_start (beside g) g.n) bare

        pub begin : Stands g.n (filled_to g h) (set order len s) (set mark s 1) (len + 1)
        begin =
            let o = placed_to g h in
            let e : filled_to g h ≡ o ++ (s ∷ []) = rw (le-ltb h (length o) (omega (arith, st.upto)), filled) (ap {B = List ℕ} (λ x. o ++ (x ∷ [])) (sym start_is)) in
            rw e (record {
              long = length-set order len s ∙ st.long;
              upto = let q = st.upto in omega (arith, length-append o (s ∷ []));
              front = ap (λ (k : ℕ). take k (set order len s)) (add-one len) ∙ take-suc-set order len s (omega (arith, st.long))
                  ∙ ap {B = List ℕ} (λ x. x ++ (s ∷ [])) st.front;
              marks = ap (λ (t : List ℕ). set t s 1) st.marks ∙ sym (mark_all_append (replicate g.n 0) o (s ∷ []));
            })

  -- ---- the visit

  module _ (h len : ℕ) (order mark : List ℕ) (lt : h < g.n) (st : Stands g.n (filled_to g h) order mark len) where
    abbrev o : List ℕ
    o = filled_to g h

    who : get_or order h 0 ≡ get_or o h 0
    who = sym (get_or-take len order h 0 (omega (arith, st.upto, far_filled h lt))) ∙ ap (λ (t : List ℕ). get_or t h 0) st.front

    module _ (v : ℕ) (p : v ≡ get_or order h 0) where
      abbrev pub its_row : List ℕ
      its_row = row g.row_offsets.now g.cols.now v

      pub who_below : v < g.n
      who_below = rw (p ∙ who) (below_filled h lt (get_or o h 0) (h, get_d_at o h 0 (far_filled h lt)))

      pub row_marks : Below (length mark) its_row
      row_marks = rw (marks_long _ _ _ _ st) (row_below g v who_below)

      fresh_is : sorted (key_of r.degrees.now) (open_of its_row mark v) ≡ fresh (beside g) g.n o (get_or o h 0)
      unfolding open_of fresh neighbours
      fresh_is =
          ap (λ (d : ℕ → ℕ). sorted d (passing (unmarked mark) (beside g v))) (keys_are _ _ g.n r.degrees.now r.table)
          ∙ ap (λ (f : ℕ → Bool). sorted (degree (beside g)) (passing f (beside g v))) (marks_are g.n o mark st.marks (below_filled h lt))
          ∙ ap (λ (x : ℕ). sorted (degree (beside g)) (passing (λ w. not (among o w)) (beside g x))) (p ∙ who)

      next : placed_to g (h + 1) ≡ o ++ fresh (beside g) g.n o (get_or o h 0)
      unfolding placing
      next = ap (placed_to g) (add-one h)

      size : length (placed_to g (h + 1)) ≡ len + length (open_of its_row mark v)
      size =
          let q = length_sort (key_of r.degrees.now) [] (open_of its_row mark v) in
          let u = ap length fresh_is in
          ap length next ∙ length-append o (fresh (beside g) g.n o (get_or o h 0)) ∙ omega (arith, st.upto)

      pub room : len + length (open_of its_row mark v) ≤ length order
      room = omega (arith, size, few_placed (h + 1) (omega arith), st.long)

      pub visited_stands : (k : ℕ) (order' mark' : List ℕ) → length order' ≡ length order → Visited its_row r.degrees.now order mark v len k order' mark'
          → Stands g.n (placed_to g (h + 1)) order' mark' k
      visited_stands k order' mark' same vis =
          let S = sorted (key_of r.degrees.now) (open_of its_row mark v) in
          let f = fresh_is in
          let front-size : length (take len order ++ S) ≡ k =
          length-append (take len order) S ∙ omega (
            arith,
            length-take-le len order (omega (arith, room)),
            length_sort (key_of r.degrees.now) [] (open_of its_row mark v),
            vis.upto,
          ) in
          record {
            long = same ∙ st.long;
            upto = vis.upto ∙ sym size;
            front = ap (λ (t : List ℕ). take k t) vis.listed ∙ take_at (take len order ++ S) (drop k order) k front-size
                ∙ ap {B = List ℕ} (λ t. t ++ S) st.front ∙ ap {B = List ℕ} (λ t. o ++ t) f ∙ sym next;
            marks = vis.marked ∙ ap (λ (m : List ℕ). mark_all m S) st.marks ∙ sym (mark_all_append (replicate g.n 0) o S)
                ∙ ap {B = List ℕ} (λ t. mark_all (replicate g.n 0) (o ++ t)) f ∙ ap (mark_all (replicate g.n 0)) (sym next);
          }

  pub whole : (order mark : List ℕ) (len : ℕ) → Stands g.n (placed_to g g.n) order mark len → order ≡ placed_to g g.n
  whole order mark len st =
      let a = few_placed g.n (omega arith) in
      let b = placed_far g.n _ _ steps g.n (omega arith) in
      sym (lib.Seq.take_all len order (omega (arith, st.long, st.upto))) ∙ st.front

  pub none_stand : (order mark : List ℕ) → length order ≡ g.n → mark ≡ replicate g.n 0 → Stands g.n (placed_to g 0) order mark 0
  unfolding placing
  none_stand order mark p e = record { long = p; upto = refl; front = refl; marks = e }
