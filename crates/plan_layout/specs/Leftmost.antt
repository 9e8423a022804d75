-- THE BLOCK COLUMN WHERE A PLACE'S ROWS START, as a walk over the whole row of its particle finds it.
-- The row's own block stands at the place itself, so to look at it too changes nothing.
use Prim.Native.Nat.{ℕ, ◌+◌, ◌-◌, ◌*◌, ◌/◌, ◌≤◌, ◌<◌}
use Rattle.std.specs.Prelude.{◌≡◌, Bool, true, false, not, cond, ltb, eqb, get_or, take}
use Rattle.std.proofs.Math.Path.{refl, sym, ap}
use Rattle.std.proofs.Common.{◌∙◌, arith, drop, drop-cons, get_or-drop, eqb-true, ltb-true, le-ltb}
use mathlib.Core.List.{List, [], ◌∷◌}
use Rattle.std.proofs.Math.Numerals.{add-one}
use Rattle.std.proofs.Math.ListN.{length, drop_of_length-le}
use Rattle.std.proofs.Math.Seq.{slice, length-slice, get_or-take}
use Rattle.law.specs.Loop.{over}
use Rattle.law.proofs.Loop.{over_shift}
use Rattle.law.specs.Along.{along}
use Rattle.law.proofs.Along.{over_list}
use Rattle.matrix_shape.specs.Rows.{at}
use Rattle.order_definition.specs.Order.{passing, row, neighbours}
use Rattle.order_definition.specs.Envelope.{place_of, lesser, leftmost, first_block, first_col}

-- over the slots of row v, from b
unfoldable pub walked : List ℕ → List ℕ → (ℕ → ℕ) → ℕ → ℕ → ℕ
walked s c p v b = over (λ k b. lesser b (p (at c k))) (at s v) (at s (v + 1)) b

-- ---- the lesser of two

lesser_left : (a b : ℕ) → lesser a b ≤ a
lesser_left a b = go (ltb b a) refl
  where
    go : (t : Bool) → ltb b a ≡ t → cond t b a ≤ a
    go true e = let h = ltb-true b a e in omega arith
    go false e = omega arith

lesser_keeps : (a b : ℕ) → a ≤ b → lesser a b ≡ a
lesser_keeps a b h = rw (le-ltb b a h)

-- ---- the definition's list is walked

module _ (o : List ℕ) where
  along_is : (b : ℕ) (l : List ℕ) → leftmost o b l ≡ along (λ x b. lesser b (place_of o x)) b l
  unfolding along
  along_is b [] = refl
  along_is b (x ∷ l) = along_is (lesser b (place_of o x)) l

  -- one that stands at i or behind is passed by
  pass_by : (i v : ℕ) → place_of o v ≡ i → (l : List ℕ) (b : ℕ) → b ≤ i → leftmost o b (passing (λ x. not (eqb x v)) l) ≡ leftmost o b l
  pass_by i v e [] b h = refl
  pass_by i v e (x ∷ l) b h = go (eqb x v) refl (pass_by i v e l)
    where
      go : (t : Bool) → eqb x v ≡ t → ((b : ℕ) → b ≤ i → leftmost o b (passing (λ x. not (eqb x v)) l) ≡ leftmost o b l)
          → leftmost o b (passing (λ x. not (eqb x v)) (x ∷ l)) ≡ leftmost o b (x ∷ l)
      go true t later =
          let p : place_of o x ≡ i = ap (place_of o) (eqb-true x v t) ∙ e in
          let same : lesser b (place_of o x) ≡ b = lesser_keeps b (place_of o x) (omega arith) in
          rw t (later b h ∙ ap (λ (k : ℕ). leftmost o k l) (sym same))
      go false t later = rw t (later (lesser b (place_of o x)) (omega (arith, lesser_left b (place_of o x))))

  leftmost_most : (b : ℕ) (l : List ℕ) → leftmost o b l ≤ b
  leftmost_most b [] = omega arith
  leftmost_most b (x ∷ l) = omega (arith, leftmost_most (lesser b (place_of o x)) l, lesser_left b (place_of o x))

-- the rows of a place start at its own block or left of it
pub first_most : (s c o : List ℕ) (i : ℕ) → first_block s c o i ≤ i
unfolding first_block
first_most s c o i = leftmost_most o i (neighbours s c (at o i))

module _ (s c o : List ℕ) (i : ℕ) (own : place_of o (at o i) ≡ i) (rise : at s (at o i) ≤ at s (at o i + 1)) (room : at s (at o i + 1) ≤ length c) where
  pub first_walked : first_block s c o i ≡ walked s c (place_of o) (at o i) i
  unfolding first_block neighbours walked
  first_walked =
      let v = at o i in
      let a = at s v in
      let e = at s (v + 1) in
      let f : ℕ → ℕ → ℕ = λ x b. lesser b (place_of o x) in
      let long : length (slice a e c) ≡ e - a = length-slice a e c room in
      let all = sym (over_list f 0 (slice a e c) i) in
      let cut = over_shift (λ k. f (get_or (slice a e c) k 0)) (λ k. f (at c k)) a e i
      (λ k b h. ap (λ (x : ℕ). lesser b (place_of o x)) (get_or-drop a (take e c) k 0 ∙ get_or-take e c (a + k) 0 (omega arith))) in
      rw (← add-one v) (pass_by o i v own (slice a e c) i (omega arith) ∙ along_is o i (slice a e c) ∙ all ∙ (rw long cut))

-- what a search for the block column b of place i answers
pub record Started (b i r : ℕ) : Type 0 where
  pub same : r ≡ b
  pub most : r ≤ i

-- ---- a place's two rows

pub first_even : (s c o : List ℕ) (i : ℕ) → first_col s c o (2 * i) ≡ 2 * first_block s c o i
unfolding first_col
first_even s c o i = ap (λ (k : ℕ). 2 * first_block s c o k) (omega arith)

pub first_odd : (s c o : List ℕ) (i : ℕ) → first_col s c o (2 * i + 1) ≡ 2 * first_block s c o i
unfolding first_col
first_odd s c o i = ap (λ (k : ℕ). 2 * first_block s c o k) (omega arith)

-- no row starts right of its diagonal
pub col_most : (s c o : List ℕ) (r : ℕ) → first_col s c o r ≤ r
unfolding first_col
col_most s c o r = omega (arith, first_most s c o (r / 2))

-- ---- the walk along a row that is lent as a list; p has the place of each

unfoldable pub along_row : (ℕ → ℕ) → ℕ → List ℕ → ℕ
along_row p b row = along (λ x b. lesser b (p x)) b row

pub row_walked : (s c : List ℕ) (p : ℕ → ℕ) (v b : ℕ) → at s v ≤ at s (v + 1) → at s (v + 1) ≤ length c → along_row p b (row s c v) ≡ walked s c p v b
unfolding along_row walked
row_walked s c p v b rise room =
    let a = at s v in
    let e = at s (v + 1) in
    let f : ℕ → ℕ → ℕ = λ x b. lesser b (p x) in
    let long : length (slice a e c) ≡ e - a = length-slice a e c room in
    let all = sym (over_list f 0 (slice a e c) b) in
    let cut = over_shift (λ k. f (get_or (slice a e c) k 0)) (λ k. f (at c k)) a e b
    (λ k b h. ap (λ (x : ℕ). lesser b (p x)) (get_or-drop a (take e c) k 0 ∙ get_or-take e c (a + k) 0 (omega arith))) in
    rw (← add-one v) (all ∙ (rw long cut))

-- one more of the row is looked at
pub along_more : (p : ℕ → ℕ) (b : ℕ) (l : List ℕ) (k : ℕ) → k < length l
    → along_row p b (drop k l) ≡ along_row p (lesser b (p (at l k))) (drop (k + 1) l)
unfolding along_row along
along_more p b l k h = rw (add-one k, drop-cons l k 0 h)

pub along_none : (p : ℕ → ℕ) (b : ℕ) (l : List ℕ) (k : ℕ) → length l ≤ k → along_row p b (drop k l) ≡ b
unfolding along_row along
along_none p b l k h = rw (drop_of_length-le l h)
