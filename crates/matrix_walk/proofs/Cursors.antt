-- What follows of specs/Cursors.antt: its theorems, apart from the definitions.
use Rattle.std.specs.Prelude.{ℕ, ◌+◌, ◌-◌, ◌≤◌, ◌<◌, ◌≡◌, refl, false, ◌&&◌, ◌||◌, leb}
use Rattle.std.proofs.Common.{sym, le_refl}
use Rattle.std.proofs.Math.Bool.{true, or-true}
use Rattle.std.proofs.Math.Logic.{⊎_elim}
use native.Mathlib.Omega.{arith}
use Rattle.std.proofs.Math.Dec.{ltb, eqb}
use borrow.Author.Tests.{ltb-true, leb-true, eqb-true, lt-ltb, le-leb, eq-eqb}
use Rattle.law.proofs.Loop.{from, rising}
use Rattle.law.specs.Truth.{both, and_true, either, below_or, alike, holds_or, clash}
use Rattle.law.specs.Every.{every}
use Rattle.law.proofs.Every.{every_at, every_of, some_at, some_of}
use Rattle.law.specs.Sum.{sum_none, sum_more, bit}
use Rattle.matrix_shape.specs.Formed.{InRow, Stored, WellFormed, slot_ok, home_ok, starts_ok, well_formed, starts_is, formed_is, formed_of}
use Rattle.matrix_shape.specs.Rows.{row_end, later}
use Rattle.matrix_walk.specs.Cursors.{cursor, end_ok, has, line_ok, meet_ok, pair_ok, walk_ok}

-- ---- how a cursor moves

module _ (s c d : ℕ → ℕ) where
  pub cursor_first : (j : ℕ) → cursor s c d 0 j ≡ d j + 1
  unfolding cursor
  cursor_first j = omega (arith, sum_none (λ q. bit (has c (s q) (d q) j)))

  pub cursor_next : (r j : ℕ) → cursor s c d (r + 1) j ≡ cursor s c d r j + bit (has c (s r) (d r) j)
  unfolding cursor
  cursor_next r j = omega (arith, sum_more (λ q. bit (has c (s q) (d q) j)) r)

  moves : (r j : ℕ) → has c (s r) (d r) j ≡ true → cursor s c d (r + 1) j ≡ cursor s c d r j + 1
  unfolding bit
  moves r j h = rw h at (cursor_next r j)

  stays : (r j : ℕ) → has c (s r) (d r) j ≡ false → cursor s c d (r + 1) j ≡ cursor s c d r j
  unfolding bit
  stays r j h = omega (arith, rw h at (cursor_next r j))

  onward : (j q r : ℕ) → q ≤ r → cursor s c d q j ≤ cursor s c d r j
  onward j q r l = rising (λ q. cursor s c d q j) r (λ k g. omega (arith, cursor_next k j)) q r l (le_refl r)

  behind : (j r : ℕ) → d j + 1 ≤ cursor s c d r j
  behind j r = omega (arith, cursor_first j, onward j 0 r (omega arith))

-- ---- what the walk shows

module _ (n m : ℕ) (s c d : ℕ → ℕ) (starts : starts_ok n m s ≡ true) (h : walk_ok n m s c d ≡ true) where
  sides : (every (line_ok m s c d) 0 n ≡ true) × (every (end_ok (cursor s c d n) s) 0 n ≡ true)
  unfolding walk_ok
  sides = both (every (line_ok m s c d) 0 n) (every (end_ok (cursor s c d n) s) 0 n) h

  line : (r : ℕ) → r < n → (home_ok c (s r) (s (r + 1)) (d r) r ≡ true) × (every (pair_ok m c (cursor s c d r) (s r) r) (s r) (d r) ≡ true)
  unfolding line_ok
  line r l = both _ (every (pair_ok m c (cursor s c d r) (s r) r) (s r) (d r)) (every_at (line_ok m s c d) 0 n sides.0 r (omega arith) l)

  home : (r : ℕ) → r < n → InRow s r (d r) × (c (d r) ≡ r)
  unfolding home_ok
  home r l =
      let o = both (leb (s r) (d r) && ltb (d r) (s (r + 1))) (eqb (c (d r)) r) (line r l).0 in
      let i = both (leb (s r) (d r)) (ltb (d r) (s (r + 1))) o.0 in
      ((leb-true _ _ i.0, ltb-true _ _ i.1), eqb-true _ _ o.1)

  ends : (r : ℕ) → r < n → cursor s c d n r ≡ s (r + 1)
  ends r l = eqb-true _ _ (every_at (end_ok (cursor s c d n) s) 0 n sides.1 r (omega arith) l)

  pair : (r k : ℕ) → r < n → s r ≤ k → k < d r → (slot_ok r c (s r) k ≡ true) × (meet_ok m c (cursor s c d r (c k)) r ≡ true)
  unfolding pair_ok
  pair r k l a b = both (slot_ok r c (s r) k) (meet_ok m c (cursor s c d r (c k)) r) (every_at (pair_ok m c (cursor s c d r) (s r) r) (s r) (d r)
      (line r l).1 k a b)

  low : (r k : ℕ) → r < n → s r ≤ k → k < d r → c k < r
  unfolding slot_ok
  low r k l a b = ltb-true _ _ (both (ltb (c k) r) (eqb k (s r) || ltb (c (k - 1)) (c k)) (pair r k l a b).0).0

  climbs : (r k : ℕ) → r < n → s r < k → k < d r → c (k - 1) < c k
  unfolding slot_ok
  climbs r k l a b =
      ⊎_elim (λ t. absurd (omega (arith, eqb-true k (s r) t))) (λ t. ltb-true _ _ t)
      (either (eqb k (s r)) (ltb (c (k - 1)) (c k)) (both (ltb (c k) r) (eqb k (s r) || ltb (c (k - 1)) (c k)) (pair r k l (omega arith) b).0).1)

  meets : (r k : ℕ) → r < n → s r ≤ k → k < d r → c (cursor s c d r (c k)) ≡ r
  unfolding meet_ok
  meets r k l a b = eqb-true _ _ (both (ltb (cursor s c d r (c k)) m) (eqb (c (cursor s c d r (c k))) r) (pair r k l a b).1).1

  -- a slot behind row j's diagonal that its cursor has passed: a row q of those walked stores its mirror, and the cursor stood there when q's turn came
  abbrev Passed : ℕ → ℕ → ℕ → Type 0
  Passed j r t = (q : ℕ) × ((q < r) × ((has c (s q) (d q) j ≡ true) × ((c t ≡ q) × (cursor s c d q j ≡ t))))

  passed : (j r : ℕ) → r ≤ n → (t : ℕ) → d j + 1 ≤ t → t < cursor s c d r j → Passed j r t
  passed j r =
      from (λ r. r ≤ n → (t : ℕ) → d j + 1 ≤ t → t < cursor s c d r j → Passed j r t) 0
      (λ _ t a b. absurd (omega (arith, cursor_first s c d j)))
      (λ r _ ih g t a b.
      ⊎_elim (λ l. let p = ih (omega arith) t a l in (p.0, (omega (arith, p.1.0), p.1.1)))
      (λ l. ⊎_elim
      (λ y.
      let e : cursor s c d r j ≡ t = omega (arith, moves s c d r j y) in
      let w = some_at (λ k. eqb (c k) j) (s r) (d r) y in
      let o : c w.0 ≡ j = eqb-true (c w.0) j w.1.1.1 in
      let z : c (cursor s c d r (c w.0)) ≡ r = meets r w.0 (omega arith) w.1.0 w.1.1.0 in
      let z' : c (cursor s c d r j) ≡ r = rw o at z in
      (r, (omega arith, (y, (rw e at z', e)))))
      (λ y. absurd (omega (arith, stays s c d r j y))) (holds_or (has c (s r) (d r) j))) (below_or t (cursor s c d r j))) r (omega arith)

  up : (j t : ℕ) → j < n → d j + 1 ≤ t → t < s (j + 1) → Passed j n t
  up j t l a b = passed j n (le_refl n) t a (omega (arith, ends j l))

  -- that row's block, and that it is below the diagonal
  lower : (j q : ℕ) → q < n → has c (s q) (d q) j ≡ true → Stored s c q j × (j < q)
  lower j q l y =
      let w = some_at (λ k. eqb (c k) j) (s q) (d q) y in
      let o = eqb-true (c w.0) j w.1.1.1 in
      ((w.0, ((w.1.0, omega (arith, w.1.1.0, (home q l).0.1)), o)), omega (arith, o, low q w.0 l w.1.0 w.1.1.0))

  cells : (r k : ℕ) → r < n → InRow s r k → c k < n
  cells r k l i =
      ⊎_elim (λ g. omega (arith, low r k l i.0 g))
      (λ g. ⊎_elim (λ f. let p = up r k l (omega arith) i.1 in omega (arith, p.1.0, p.1.1.1.0))
      (λ f. let e : d r ≡ k = omega arith in omega (arith, rw e at (home r l).1)) (below_or (d r) k)) (below_or k (d r))

  climb : (r k : ℕ) → r < n → InRow s r k → s r < k → c (k - 1) < c k
  climb r k l i g =
      let o = home r l in
      ⊎_elim (λ a. climbs r k l g a)
      (λ a. ⊎_elim
      (λ b.
      let p = up r k l (omega arith) i.1 in
      ⊎_elim
      (λ f.
      let q = up r (k - 1) l (omega arith) (omega (arith, i.1)) in
      ⊎_elim (λ u. omega (arith, p.1.1.1.0, q.1.1.1.0))
      (λ u. absurd (omega (arith, onward s c d r p.0 q.0 u, p.1.1.1.1, q.1.1.1.1))) (below_or q.0 p.0))
      (λ f. let e : d r ≡ k - 1 = omega arith in omega (arith, rw e at o.1, p.1.1.1.0, (lower r p.0 p.1.0 p.1.1.0).1))
      (below_or (d r) (k - 1)))
      (λ b. let e : d r ≡ k = omega arith in omega (arith, rw e at o.1, low r (k - 1) l (omega arith) (omega arith))) (below_or (d r) k))
      (below_or k (d r))

  mirror : (r k : ℕ) → r < n → InRow s r k → Stored s c (c k) r
  mirror r k l i =
      ⊎_elim
      (λ g.
      let q = cells r k l i in
      let y = moves s c d r (c k) (some_of (λ j. eqb (c j) (c k)) (s r) (d r) k i.0 g (eq-eqb (c k) (c k) refl)) in (
        cursor s c d r (c k),
        (
          (
            omega (arith, behind s c d (c k) r, (home (c k) q).0.0),
            omega
                (arith, y, onward s c d (c k) (r + 1) n (omega arith), ends (c k) q),
          ),
          meets r k l i.0 g,
        ),
      ))
      (λ g. ⊎_elim (λ f. let p = up r k l (omega arith) i.1 in rw p.1.1.1.0 (lower r p.0 p.1.0 p.1.1.0).0)
      (λ f. let e : d r ≡ k = omega arith in let o : r ≡ c k = rw e at (sym (home r l).1) in (k, (rw o at i, sym o))) (below_or (d r) k)) (below_or k (d r))

  pub walk_shows : WellFormed n m s c d
  walk_shows =
      let e = starts_is n m s starts in
      record {
        begins = e.0;
        rise = e.1.0;
        ends = e.1.1;
        below = cells;
        strict = climb;
        home = home;
        mirrored = λ r col l w. rw w.1.1 at (mirror r w.0 l w.1.0);
      }

-- ---- and what shows the walk

module _ (n m : ℕ) (s c d : ℕ → ℕ) (w : WellFormed n m s c d) where
  -- the walk of r rows has left row j's cursor at the first slot behind the diagonal whose column is r or more
  record Between (r j : ℕ) : Type 0 where
    most : cursor s c d r j ≤ s (j + 1)
    before : (t : ℕ) → d j + 1 ≤ t → t < cursor s c d r j → c t < r
    after : (t : ℕ) → cursor s c d r j ≤ t → t < s (j + 1) → r ≤ c t

  inside : (j t : ℕ) → j < n → d j + 1 ≤ t → t < s (j + 1) → InRow s j t
  inside j t l a b = (omega (arith, (w.home j l).0.0), b)

  in_order : (r : ℕ) → r < n → (j k : ℕ) → InRow s r j → InRow s r k → c j < c k → j < k
  in_order r l j k a b h =
      ⊎_elim (λ g. g)
      (λ g. ⊎_elim (λ f. absurd (omega (arith, later n m s c d w r l k j b.0 f a.1)))
      (λ f. absurd (let e : j ≡ k = omega arith in omega (arith, rw e at h))) (below_or k j)) (below_or j k)

  -- a block below the diagonal is met
  hit : (r j : ℕ) → r < n → j < n → has c (s r) (d r) j ≡ true → Between r j → (cursor s c d r j < s (j + 1)) × (c (cursor s c d r j) ≡ r)
  hit r j l i y b =
      let v = some_at (λ k. eqb (c k) j) (s r) (d r) y in
      let o : c v.0 ≡ j = eqb-true (c v.0) j v.1.1.1 in
      let hr = w.home r l in
      let hj = w.home j i in
      let g = later n m s c d w r l v.0 (d r) v.1.0 v.1.1.0 hr.0.1 in
      let u = w.mirrored r j l (v.0, ((v.1.0, omega (arith, v.1.1.0, hr.0.1)), o)) in
      let p = in_order j i (d j) u.0 hj.0 u.1.0 (omega (arith, g, o, hr.1, hj.1, u.1.1)) in
      let x = cursor s c d r j in
      let z : x ≡ u.0 =
      ⊎_elim (λ f. absurd (omega (arith, b.before u.0 (omega (arith, p)) f, u.1.1)))
      (λ f. ⊎_elim (λ e. absurd (omega (
        arith,
        b.after x (le_refl x) (omega (arith, u.1.0.1)),
        later n m s c d w j i x u.0
            (omega (arith, behind s c d j r, hj.0.0)) e u.1.0.1,
        u.1.1,
      ))) (λ e. omega arith) (below_or x u.0)) (below_or u.0 x) in
      (omega (arith, u.1.0.1), rw z u.1.1)

  -- no block behind row j's diagonal has a column whose row lacks the mirror
  miss : (r j t : ℕ) → r < n → j < n → has c (s r) (d r) j ≡ false → d j + 1 ≤ t → t < s (j + 1) → c t ≡ r → ⊥
  miss r j t l i y a b e =
      let hr = w.home r l in
      let hj = w.home j i in
      let g = later n m s c d w j i (d j) t hj.0.0 (omega (arith, a)) b in
      let u = w.mirrored j r i (t, (inside j t i a b, e)) in
      let p = in_order r l u.0 (d r) u.1.0 hr.0 (omega (arith, g, e, hr.1, hj.1, u.1.1)) in
      clash (has c (s r) (d r) j) y (some_of (λ k. eqb (c k) j) (s r) (d r) u.0 u.1.0.0 p (eq-eqb _ _ u.1.1))

  between : (j : ℕ) → j < n → (r : ℕ) → r ≤ n → Between r j
  between j i r =
      from (λ r. r ≤ n → Between r j) 0
      (λ _. let e = cursor_first s c d j in record {
        most = omega (arith, (w.home j i).0.1);
        before = λ t a b. absurd (omega arith);
        after
            = λ t a b. omega arith;
      })
      (λ r _ ih g.
      let b = ih (omega arith) in
      ⊎_elim
      (λ y.
      let e = moves s c d r j y in
      let x = hit r j (omega arith) i y b in
      let f : s j ≤ cursor s c d r j = omega (arith, behind s c d j r, (w.home j i).0.0) in
      record {
        most = omega (arith, x.0);
        before = λ t a k. ⊎_elim (λ u. omega (arith, b.before t a u)) (λ (u : cursor s c d r j ≤ t). let q : t ≡ cursor s c d r j = omega arith in rw
            q (omega (arith, x.1))) (below_or t (cursor s c d r j));
        after = λ t a k. omega (arith, x.1, later n m s c d w j i (cursor s c d r j) t f (omega arith) k);
      })
      (λ y.
      let e = stays s c d r j y in
      record {
        most = omega (arith, b.most);
        before = λ t a k. omega (arith, b.before t a (omega arith));
        after = λ t a k.
            ⊎_elim (λ (u : r < c t). omega arith)
            (λ u. absurd (miss r j t (omega arith) i y (omega (arith, behind s c d j r)) k (omega (arith, b.after t (omega arith) k))))
            (below_or r (c t));
      }) (holds_or (has c (s r) (d r) j))) r (omega arith)

  pairs : (r k : ℕ) → r < n → s r ≤ k → k < d r → pair_ok m c (cursor s c d r) (s r) r k ≡ true
  unfolding pair_ok slot_ok meet_ok
  pairs r k l a b =
      let h = w.home r l in
      let i : InRow s r k = (a, omega (arith, h.0.1)) in
      let q = w.below r k l i in
      let x = hit r (c k) l q (some_of (λ j. eqb (c j) (c k)) (s r) (d r) k a b (eq-eqb (c k) (c k) refl)) (between (c k) q r (omega arith)) in
      let rise : (eqb k (s r) || ltb (c (k - 1)) (c k)) ≡ true =
      ⊎_elim (λ t. rw (lt-ltb _ _ (w.strict r k l i t), or-true)) (λ t. let z : k ≡ s r = omega arith in rw (eq-eqb k (s r) z)) (below_or (s r) k) in
      let f : c k < r = omega (arith, h.1, later n m s c d w r l k (d r) a b h.0.1) in
      let g : cursor s c d r (c k) < m = omega (arith, x.0, row_end n s w.rise (c k) q, w.ends) in
      and_true (slot_ok r c (s r) k) (meet_ok m c (cursor s c d r (c k)) r) (and_true (ltb (c k) r) _ (lt-ltb _ _ f) rise)
      (and_true (ltb (cursor s c d r (c k)) m) _ (lt-ltb _ _ g) (eq-eqb _ _ x.1))

  pub shows_walk : walk_ok n m s c d ≡ true
  unfolding walk_ok line_ok home_ok
  shows_walk =
      and_true (every (line_ok m s c d) 0 n) (every (end_ok (cursor s c d n) s) 0 n)
      (every_of (line_ok m s c d) 0 n (λ r f l.
      let h = w.home r l in
      and_true (home_ok c (s r) (s (r + 1)) (d r) r) _ (rw (le-leb _ _ h.0.0, lt-ltb _ _ h.0.1, eq-eqb _ _ h.1))
      (every_of (pair_ok m c (cursor s c d r) (s r) r) (s r) (d r) (λ k a b. pairs r k l a b))))
      (every_of (end_ok (cursor s c d n) s) 0 n (λ r f l.
      let b = between r l n (le_refl n) in
      let x = cursor s c d n r in
      eq-eqb x (s (r + 1)) (⊎_elim (λ g. absurd
      (omega (arith, b.after x (le_refl x) g, w.below r x l (omega (arith, behind s c d r n, (w.home r l).0.0), g))))
      (λ g. omega (arith, b.most)) (below_or x (s (r + 1))))))

-- THE WALK'S ANSWER IS THE PATTERN'S, once the row starts have passed
pub walk_is : (n m : ℕ) (s c d : ℕ → ℕ) → starts_ok n m s ≡ true → walk_ok n m s c d ≡ well_formed n m s c d
walk_is n m s c d starts = alike _ _ (λ h. formed_of n m s c d (walk_shows n m s c d starts h)) (λ h. shows_walk n m s c d (formed_is n m s c d h))
