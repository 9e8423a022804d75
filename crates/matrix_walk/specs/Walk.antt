-- WHAT THE WALK'S CODE PROMISES, row by row and slot by slot, and the laws of its loops.
use Rattle.std.specs.Prelude.{ℕ, ◌+◌, ◌-◌, ◌≤◌, ◌<◌, ◌≡◌, refl, Bool, false, not, ◌&&◌, ◌||◌, List, leb, length, set}
use Rattle.std.proofs.Math.Path.{sym, ap}
use Rattle.std.proofs.Common.{◌∙◌, get_or-set_same, get_or-set_other}
use Rattle.std.proofs.Math.Bool.{true, or-true}
use Rattle.std.proofs.Math.Logic.{⊎_elim}
use native.Mathlib.Omega.{arith}
use Rattle.std.proofs.Math.Dec.{ltb, eqb}
use borrow.Author.Tests.{not-false, ltb-true, leb-true, eqb-true, lt-ltb, eq-eqb}
use Rattle.law.specs.Truth.{both, and_true, either, untrue, below_or, same_or, alike, passed, refused, clash}
use Rattle.law.specs.Every.{every}
use Rattle.law.proofs.Every.{every_more, every_at, every_of, some_at, some_of, some_none}
use Rattle.law.specs.Sum.{sum_nothing, bit}
use Rattle.matrix_shape.specs.Formed.{slot_ok, home_ok}
use Rattle.matrix_shape.specs.Rows.{at}
use Rattle.matrix_shape.specs.Phases.{Spread}
use Rattle.matrix_walk.specs.Cursors.{has, cursor, meet_ok, pair_ok, line_ok, end_ok, walk_ok}

-- what a pattern whose row starts have passed and a list of cursors are to hold
pub record Lent (n m : ℕ) (starts cols diagonal next : List ℕ) : Type 0 where
  pub spread : Spread n starts cols diagonal
  pub count : m ≡ at starts n
  pub cursors : n ≤ length next

-- the slots a..b of row r, before its diagonal's
pub record Lows (m : ℕ) (cols : List ℕ) (a b r : ℕ) (next : List ℕ) : Type 0 where
  pub few : m < 4294967296
  pub columns : m ≤ length cols
  pub order : a ≤ b
  pub most : b ≤ m
  pub cursors : r ≤ length next

-- the answer x for those slots, with the cursors before and after
pub record Paired (m : ℕ) (cols : List ℕ) (a b r : ℕ) (old new : List ℕ) (x : Bool) : Type 0 where
  pub tells : x ≡ every (pair_ok m (at cols) (at old) a r) a b
  pub moved : x ≡ true → (j : ℕ) → j < r → at new j ≡ at old j + bit (has (at cols) a b j)

-- the answer x for all rows
pub record Lined (n m : ℕ) (starts cols diagonal new : List ℕ) (x : Bool) : Type 0 where
  pub tells : x ≡ every (line_ok m (at starts) (at cols) (at diagonal)) 0 n
  pub stands : x ≡ true → (j : ℕ) → j < n → at new j ≡ cursor (at starts) (at cols) (at diagonal) n j

pub meet_low : (m : ℕ) (c : ℕ → ℕ) (f r : ℕ) → meet_ok m c f r ≡ true → f < m
unfolding meet_ok
meet_low m c f r t = ltb-true _ _ (both (ltb f m) (eqb (c f) r) t).0

pub home_is : (c : ℕ → ℕ) (a b k r : ℕ) → home_ok c a b k r ≡ true → (a ≤ k) × (k < b)
unfolding home_ok
home_is c a b k r t =
    let i = both (leb a k) (ltb k b) (both (leb a k && ltb k b) (eqb (c k) r) t).0 in
    (leb-true _ _ i.0, ltb-true _ _ i.1)

pub paired_not : (m : ℕ) (cols : List ℕ) (a b r : ℕ) (old new : List ℕ) → false ≡ every (pair_ok m (at cols) (at old) a r) a b
    → Paired m cols a b r old new false
paired_not m cols a b r old new h = record { tells = h; moved = λ e. absurd (clash true (sym e) refl) }

pub lined_not : (n m : ℕ) (starts cols diagonal new : List ℕ) → false ≡ every (line_ok m (at starts) (at cols) (at diagonal)) 0 n
    → Lined n m starts cols diagonal new false
lined_not n m starts cols diagonal new h = record { tells = h; stands = λ e. absurd (clash true (sym e) refl) }

-- ---- the slots of one row, from the last to the first: f has the cursors before, g once the slots k..b have been met, whose least column is `ceiling`

pub record Going (m : ℕ) (c f : ℕ → ℕ) (r b k ceiling : ℕ) (g : ℕ → ℕ) : Type 0 where
  pub none : b ≤ k → ceiling ≡ r
  pub least : k < b → ceiling ≡ c k
  pub most : ceiling ≤ r
  pub within : (j : ℕ) → k ≤ j → j < b → (ceiling ≤ c j) × (c j < r)
  pub climb : (j : ℕ) → k < j → j < b → c (j - 1) < c j
  pub met : (j : ℕ) → k ≤ j → j < b → meet_ok m c (f (c j)) r ≡ true
  pub moved : (j : ℕ) → j < r → g j ≡ f j + bit (has c k b j)

parts : (m : ℕ) (c f : ℕ → ℕ) (a r k : ℕ) → pair_ok m c f a r k ≡ true → (c k < r) × (((eqb k a || ltb (c (k - 1)) (c k)) ≡ true)
    × (meet_ok m c (f (c k)) r ≡ true))
unfolding pair_ok slot_ok
parts m c f a r k t =
    let p = both (slot_ok r c a k) (meet_ok m c (f (c k)) r) t in
    let q = both (ltb (c k) r) (eqb k a || ltb (c (k - 1)) (c k)) p.0 in
    (ltb-true _ _ q.0, (q.1, p.1))

module _ (m : ℕ) (c f : ℕ → ℕ) (r b : ℕ) where
  pub going_none : Going m c f r b b r f
  unfolding bit
  going_none = record {
    none = λ _. refl;
    least = λ l. absurd (omega arith);
    most = omega arith;
    within = λ j h l. absurd (omega arith);
    climb = λ j h l. absurd (omega arith);
    met = λ j h l. absurd (omega arith);
    moved = λ j l. omega (arith, ap bit (sym (some_none (λ k. eqb (c k) j) b)));
  }

  module _ (a : ℕ) where
    -- all slots have been met
    pub going_done : (ceiling : ℕ) (g : ℕ → ℕ) → Going m c f r b a ceiling g → every (pair_ok m c f a r) a b ≡ true
    unfolding pair_ok slot_ok
    going_done ceiling g w =
        every_of (pair_ok m c f a r) a b (λ k h l.
        let rise : (eqb k a || ltb (c (k - 1)) (c k)) ≡ true =
        ⊎_elim (λ t. rw (lt-ltb (c (k - 1)) (c k) (w.climb k t l), or-true)) (λ t. let z : k ≡ a = omega arith in rw (eq-eqb k a z)) (below_or a k) in
        and_true (slot_ok r c a k) (meet_ok m c (f (c k)) r) (and_true (ltb (c k) r) _ (lt-ltb _ _ (w.within k h l).1) rise) (w.met k h l))

    stops : (k : ℕ) → a ≤ k → k < b → (pair_ok m c f a r k ≡ true → ⊥) → false ≡ every (pair_ok m c f a r) a b
    stops k h l t = sym (untrue (every (pair_ok m c f a r) a b) (λ e. t (every_at (pair_ok m c f a r) a b e k h l)))

    rises : (k : ℕ) → a < k → pair_ok m c f a r k ≡ true → c (k - 1) < c k
    rises k h t = ⊎_elim (λ e. absurd (omega (arith, eqb-true k a e))) (λ e. ltb-true _ _ e)
        (either (eqb k a) (ltb (c (k - 1)) (c k)) (parts m c f a r k t).1.0)

    module _ (k ceiling : ℕ) (g : ℕ → ℕ) (w : Going m c f r b (k + 1) ceiling g) (h : a ≤ k) (l : k < b) where
      pub too_high : ceiling ≤ c k → false ≡ every (pair_ok m c f a r) a b
      too_high e =
          ⊎_elim
          (λ (u : k + 1 < b).
          let z : (k + 1) - 1 ≡ k = omega arith in
          stops (k + 1) (omega arith) u (λ t. let v : c k < c (k + 1) = rw z at (rises (k + 1) (omega arith) t) in omega (arith, w.least u)))
          (λ u. stops k h l (λ t. omega (arith, w.none u, (parts m c f a r k t).0))) (below_or (k + 1) b)

      module _ (low : c k < ceiling) where
        high : c k < r
        high = omega (arith, w.most)

        -- no slot behind k has the same column
        lacks : has c (k + 1) b (c k) ≡ false
        lacks = untrue (has c (k + 1) b (c k)) (λ t. let v = some_at (λ i. eqb (c i) (c k)) (k + 1) b t in omega
            (arith, (w.within v.0 v.1.0 v.1.1.0).0, eqb-true (c v.0) (c k) v.1.1.1))

        -- so its column's cursor stands where it stood
        pub stood : g (c k) ≡ f (c k)
        unfolding bit
        stood = omega (arith, rw lacks at (w.moved (c k) high))

        pub unmet : meet_ok m c (f (c k)) r ≡ false → false ≡ every (pair_ok m c f a r) a b
        unmet e = stops k h l (λ t. clash (meet_ok m c (f (c k)) r) e (parts m c f a r k t).1.1)

        -- a column other than slot k's is one of k..b if it is one behind k
        same : (j : ℕ) → (c k ≡ j → ⊥) → has c k b j ≡ has c (k + 1) b j
        same j z =
            alike _ _
            (λ t. let v = some_at (λ i. eqb (c i) j) k b t in some_of (λ i. eqb (c i) j) (k + 1) b v.0
            (⊎_elim (λ u. omega (arith, u))
            (λ (u : v.0 ≤ k). absurd (let y : v.0 ≡ k = omega (arith, v.1.0) in z (rw y at (eqb-true (c v.0) j v.1.1.1))))
            (below_or k v.0)) v.1.1.0 v.1.1.1)
            (λ t. let v = some_at (λ i. eqb (c i) j) (k + 1) b t in some_of (λ i. eqb (c i) j) k b v.0 (omega (arith, v.1.0)) v.1.1.0 v.1.1.1)

        pub going_on : (g' : ℕ → ℕ) → meet_ok m c (f (c k)) r ≡ true → g' (c k) ≡ g (c k) + 1 → ((j : ℕ) → (c k ≡ j → ⊥) → g' j ≡ g j)
            → Going m c f r b k (c k) g'
        unfolding bit
        going_on g' e here there = record {
          none = λ u. absurd (omega arith);
          least = λ _. refl;
          most = omega (arith, high);
          within = λ j u v. ⊎_elim (λ t. let i = w.within j (omega (arith, t)) v in (omega (arith, i.0), i.1))
              (λ (t : j ≤ k). let z : j ≡ k = omega arith in rw z (omega arith, high)) (below_or k j);
          climb = λ j u v. ⊎_elim (λ t. w.climb j t v) (λ (t : j ≤ k + 1). let z : j ≡ k + 1 = omega arith in let y : (k + 1) - 1 ≡ k = omega arith
              in rw (z, y) (omega (arith, w.least (omega arith)))) (below_or (k + 1) j);
          met = λ j u v. ⊎_elim (λ t. w.met j (omega (arith, t)) v) (λ (t : j ≤ k). let z : j ≡ k = omega arith in rw z e) (below_or k j);
          moved = λ j u.
              ⊎_elim (λ (z : c k ≡ j). let y : has c k b j ≡ true = some_of (λ i. eqb (c i) j) k b k (omega arith) l (eq-eqb (c k) j z) in rw (y, ← z)
              (omega (arith, here, stood)))
              (λ (z : c k ≡ j → ⊥). rw (same j z) (there j z ∙ w.moved j u)) (same_or (c k) j);
        }

-- the list of cursors with one of them gone on by one
pub stored_here : (l : List ℕ) (i v : ℕ) → i < length l → at (set l i v) i ≡ v
stored_here l i v h = get_or-set_same l i v 0 h

pub stored_there : (l : List ℕ) (i v : ℕ) (j : ℕ) → (i ≡ j → ⊥) → at (set l i v) j ≡ at l j
stored_there l i v j h = get_or-set_other l i j v 0 (λ e. h (sym e))

-- the same as the loop's turn has it, which goes from k to k - 1: q is that slot's column, slot what stands in the list of cursors there
module _ (m : ℕ) (c f : ℕ → ℕ) (r b a k ceiling : ℕ) (l : List ℕ) (w : Going m c f r b k ceiling (at l)) (h : a < k) (i : k ≤ b) (q : ℕ)
    (e : q ≡ c (k - 1)) where
  pub before : Going m c f r b ((k - 1) + 1) ceiling (at l)
  before = let z : (k - 1) + 1 ≡ k = omega arith in rw z w

  pub turn_high : ceiling ≤ q → false ≡ every (pair_ok m c f a r) a b
  turn_high t = too_high m c f r b a (k - 1) ceiling (at l) before (omega arith) (omega arith) (omega (arith, e))

  module _ (slot : ℕ) (low : q < ceiling) (u : slot ≡ at l q) where
    slot_is : slot ≡ f (c (k - 1))
    slot_is = u ∙ (ap (at l) e ∙ stood m c f r b a (k - 1) ceiling (at l) before (omega arith) (omega arith) (omega (arith, e)))

    pub turn_stops : meet_ok m c slot r ≡ false → false ≡ every (pair_ok m c f a r) a b
    turn_stops t = unmet m c f r b a (k - 1) ceiling (at l) before (omega arith) (omega arith) (omega (arith, e)) (rw slot_is at t)

    pub turn_goes : r ≤ length l → meet_ok m c slot r ≡ true → Going m c f r b (k - 1) q (at (set l q (slot + 1)))
    turn_goes room t =
        rw e (going_on m c f r b a (k - 1) ceiling (at l) before (omega arith) (omega arith) (omega (arith, e)) (at (set l (c (k - 1)) (slot + 1)))
        (rw slot_is at t) (stored_here l (c (k - 1)) (slot + 1) (omega (arith, e, w.most)) ∙ ap (λ (z : ℕ). z + 1) (u ∙ ap (at l) e))
        (λ j z. stored_there l (c (k - 1)) (slot + 1) j z))

-- ---- the rows

-- cursors that agree below r give the same answer for row r
pub pairs_same : (m : ℕ) (c f g : ℕ → ℕ) (a b r : ℕ) → ((j : ℕ) → j < r → f j ≡ g j) → every (pair_ok m c f a r) a b ≡ every (pair_ok m c g a r) a b
unfolding pair_ok
pairs_same m c f g a b r e = alike _ _ (one f g e) (one g f (λ j l. sym (e j l)))
  where
    one : (f g : ℕ → ℕ) → ((j : ℕ) → j < r → f j ≡ g j) → every (pair_ok m c f a r) a b ≡ true → every (pair_ok m c g a r) a b ≡ true
    one f g e t =
        every_of (pair_ok m c g a r) a b (λ k h l.
        let u = every_at (pair_ok m c f a r) a b t k h l in
        and_true (slot_ok r c a k) (meet_ok m c (g (c k)) r) (both (slot_ok r c a k) (meet_ok m c (f (c k)) r) u).0
        (rw (e (c k) (parts m c f a r k u).0) at (parts m c f a r k u).1.1))

pub ends_same : (f g s : ℕ → ℕ) (n : ℕ) → ((j : ℕ) → j < n → f j ≡ g j) → every (end_ok f s) 0 n ≡ every (end_ok g s) 0 n
ends_same f g s n e = alike _ _ (one f g e) (one g f (λ j l. sym (e j l)))
  where
    one : (f g : ℕ → ℕ) → ((j : ℕ) → j < n → f j ≡ g j) → every (end_ok f s) 0 n ≡ true → every (end_ok g s) 0 n ≡ true
    one f g e t = every_of (end_ok g s) 0 n (λ k h l. rw (e k l) at (every_at (end_ok f s) 0 n t k h l))

module _ (m : ℕ) (s c d : ℕ → ℕ) where
  -- row r's own cursor has not moved by then
  pub own : (r : ℕ) → every (line_ok m s c d) 0 (r + 1) ≡ true → cursor s c d (r + 1) r ≡ d r + 1
  unfolding cursor line_ok bit
  own r t =
      omega (
        arith,
        sum_nothing (λ q. bit (has c (s q) (d q) r)) (r + 1) (λ q l.
            let p = both (home_ok c (s q) (s (q + 1)) (d q) q) (every (pair_ok m c (cursor s c d q) (s q) q) (s q) (d q))
            (every_at (line_ok m s c d) 0 (r + 1) t q (omega arith) l) in
            rw (untrue (has c (s q) (d q) r) (λ y.
            let v = some_at (λ k. eqb (c k) r) (s q) (d q) y in
            omega (
              arith,
              eqb-true (c v.0) r v.1.1.1,
              (parts m c (cursor s c d q) (s q) q v.0
                  (every_at (pair_ok m c (cursor s c d q) (s q) q) (s q) (d q) p.1 v.0 v.1.0 v.1.1.0)).0,
            )))),
      )

  module _ (n r : ℕ) (l : r < n) where
    line_stops : (line_ok m s c d r ≡ true → ⊥) → false ≡ every (line_ok m s c d) 0 n
    line_stops t = sym (untrue (every (line_ok m s c d) 0 n) (λ e. t (every_at (line_ok m s c d) 0 n e r (omega arith) l)))

    pub no_home : home_ok c (s r) (s (r + 1)) (d r) r ≡ false → false ≡ every (line_ok m s c d) 0 n
    unfolding line_ok
    no_home e = line_stops (λ t. clash (home_ok c (s r) (s (r + 1)) (d r) r) e
        (both (home_ok c (s r) (s (r + 1)) (d r) r) (every (pair_ok m c (cursor s c d r) (s r) r) (s r) (d r)) t).0)

    pub no_pairs : every (pair_ok m c (cursor s c d r) (s r) r) (s r) (d r) ≡ false → false ≡ every (line_ok m s c d) 0 n
    unfolding line_ok
    no_pairs e = line_stops (λ t. clash (every (pair_ok m c (cursor s c d r) (s r) r) (s r) (d r)) e
        (both (home_ok c (s r) (s (r + 1)) (d r) r) (every (pair_ok m c (cursor s c d r) (s r) r) (s r) (d r)) t).1)

  -- one row more
  pub row_passes : (r : ℕ) → every (line_ok m s c d) 0 r ≡ true → home_ok c (s r) (s (r + 1)) (d r) r ≡ true
      → every (pair_ok m c (cursor s c d r) (s r) r) (s r) (d r) ≡ true → every (line_ok m s c d) 0 (r + 1) ≡ true
  unfolding line_ok
  row_passes r t h p = sym (every_more (line_ok m s c d) 0 r (omega arith)) ∙ and_true _ _ t (and_true (home_ok c (s r) (s (r + 1)) (d r) r) _ h p)

-- the same as the loop's turn has it: a, b and k are where row r starts, where it ends and where its diagonal stands
module _ (m : ℕ) (s c d : ℕ → ℕ) (n r : ℕ) (l : r < n) (a b k : ℕ) (ea : a ≡ s r) (eb : b ≡ s (r + 1)) (ek : k ≡ d r) where
  pub row_no_home : home_ok c a b k r ≡ false → false ≡ every (line_ok m s c d) 0 n
  row_no_home t = no_home m s c d n r l (rw (ea, eb, ek) at t)

  module _ (old : List ℕ) (stood : (j : ℕ) → j < r → at old j ≡ cursor s c d r j) where
    pairs_are : every (pair_ok m c (at old) a r) a k ≡ every (pair_ok m c (cursor s c d r) (s r) r) (s r) (d r)
    pairs_are = rw (ea, ek) (pairs_same m c (at old) (cursor s c d r) (s r) (d r) r stood)

    pub row_no_pairs : every (pair_ok m c (at old) a r) a k ≡ false → false ≡ every (line_ok m s c d) 0 n
    row_no_pairs t = no_pairs m s c d n r l (sym pairs_are ∙ t)

    module _ (new : List ℕ) (room : r < length new) (rows : every (line_ok m s c d) 0 r ≡ true) (home : home_ok c a b k r ≡ true)
        (t : every (pair_ok m c (at old) a r) a k ≡ true) where
      pub row_tested : every (line_ok m s c d) 0 (r + 1) ≡ true
      row_tested = row_passes m s c d r rows (rw (ea, eb, ek) at home) (sym pairs_are ∙ t)

-- ---- the whole walk

module _ (n m : ℕ) (starts cols diagonal new : List ℕ) (x : Bool) (w : Lined n m starts cols diagonal new x) where
  pub walk_not : not x ≡ true → false ≡ walk_ok n m (at starts) (at cols) (at diagonal)
  unfolding walk_ok
  walk_not h = rw (refused _ _ w.tells h)

  pub walk_ends : not x ≡ false → (y : Bool) → y ≡ every (end_ok (at new) (at starts)) 0 n → y ≡ walk_ok n m (at starts) (at cols) (at diagonal)
  unfolding walk_ok
  walk_ends h y e = rw (passed _ _ w.tells h) (e ∙ ends_same (at new) (cursor (at starts) (at cols) (at diagonal) n) (at starts) n
      (w.stands (not-false x h)))
