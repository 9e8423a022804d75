-- WHEN A PATTERN IS WELL FORMED, as the rules have it (RULES.md § 5: `WellFormed`) and as a test that computes (`well_formed`); each
-- follows from the other. A pattern of n rows and m blocks is three functions, so that it may stand in lists or
-- anywhere else: s r is where row r starts, c k the column in slot k, d r the slot of row r's diagonal.
use Rattle.std.specs.Prelude.{ℕ, ◌+◌, ◌-◌, ◌≤◌, ◌<◌, ◌≡◌, refl, Bool, ◌&&◌, ◌||◌, leb, eqb}
use Rattle.std.proofs.Math.Bool.{true, or-true}
use Rattle.std.proofs.Common.{⊎_elim}
use native.Mathlib.Omega.{arith}
use Rattle.std.proofs.Math.Dec.{ltb}
use borrow.Author.Tests.{leb-true, ltb-true, eqb-true, le-leb, lt-ltb, eq-eqb}
use Rattle.law.specs.Truth.{both, and_true, either, below_or}
use Rattle.law.specs.Every.{every, some}
use Rattle.law.proofs.Every.{every_at, every_of, some_at, some_of}

-- slot k is one of row r's
abbrev pub InRow : (ℕ → ℕ) → ℕ → ℕ → Type 0
InRow s r k = (s r ≤ k) × (k < s (r + 1))

-- block (r,col) is stored: some slot of row r has the column col
abbrev pub Stored : (ℕ → ℕ) → (ℕ → ℕ) → ℕ → ℕ → Type 0
Stored s c r col = (k : ℕ) × (InRow s r k × (c k ≡ col))

pub record WellFormed (n m : ℕ) (s c d : ℕ → ℕ) : Type 0 where
  -- row starts begin at 0, rise, and end at the block count
  pub begins : s 0 ≡ 0
  pub rise : (r : ℕ) → r < n → s r ≤ s (r + 1)
  pub ends : s n ≡ m
  -- columns rise strictly within a row and are below n
  pub below : (r k : ℕ) → r < n → InRow s r k → c k < n
  pub strict : (r k : ℕ) → r < n → InRow s r k → s r < k → c (k - 1) < c k
  -- each row has its diagonal, at the slot recorded
  pub home : (r : ℕ) → r < n → InRow s r (d r) × (c (d r) ≡ r)
  -- block (r,c) is stored whenever (c,r) is
  pub mirrored : (r col : ℕ) → r < n → Stored s c r col → Stored s c col r

-- ---- the same as a test

abbrev pub rise_ok : (ℕ → ℕ) → ℕ → Bool
rise_ok s r = leb (s r) (s (r + 1))

-- slot k of a row whose slots start at a: its column is below n and above the column before it
unfoldable pub slot_ok : ℕ → (ℕ → ℕ) → ℕ → ℕ → Bool
slot_ok n c a k = ltb (c k) n && (eqb k a || ltb (c (k - 1)) (c k))

-- slot k is in a..b and has the column r
unfoldable pub home_ok : (ℕ → ℕ) → ℕ → ℕ → ℕ → ℕ → Bool
home_ok c a b k r = (leb a k && ltb k b) && eqb (c k) r

unfoldable pub row_ok : ℕ → (ℕ → ℕ) → (ℕ → ℕ) → (ℕ → ℕ) → ℕ → Bool
row_ok n s c d r = every (slot_ok n c (s r)) (s r) (s (r + 1)) && home_ok c (s r) (s (r + 1)) (d r) r

-- block (r,col) is stored
unfoldable pub stored : (ℕ → ℕ) → (ℕ → ℕ) → ℕ → ℕ → Bool
stored s c r col = some (λ k. eqb (c k) col) (s r) (s (r + 1))

unfoldable pub mirrors_ok : (ℕ → ℕ) → (ℕ → ℕ) → ℕ → Bool
mirrors_ok s c r = every (λ k. stored s c (c k) r) (s r) (s (r + 1))

unfoldable pub starts_ok : ℕ → ℕ → (ℕ → ℕ) → Bool
starts_ok n m s = (eqb (s 0) 0 && every (rise_ok s) 0 n) && eqb (s n) m

unfoldable pub well_formed : ℕ → ℕ → (ℕ → ℕ) → (ℕ → ℕ) → (ℕ → ℕ) → Bool
well_formed n m s c d = (starts_ok n m s && every (row_ok n s c d) 0 n) && every (mirrors_ok s c) 0 n

-- ---- the test passes exactly for the patterns that are well formed by RULES.md § 5

pub stored_is : (s c : ℕ → ℕ) (r col : ℕ) → stored s c r col ≡ true → Stored s c r col
unfolding stored
stored_is s c r col h = let w = some_at (λ k. eqb (c k) col) (s r) (s (r + 1)) h in (w.0, ((w.1.0, w.1.1.0), eqb-true _ _ w.1.1.1))

pub stored_of : (s c : ℕ → ℕ) (r col : ℕ) → Stored s c r col → stored s c r col ≡ true
unfolding stored
stored_of s c r col w = some_of (λ k. eqb (c k) col) (s r) (s (r + 1)) w.0 w.1.0.0 w.1.0.1 (eq-eqb _ _ w.1.1)

-- what each part of the test says
pub starts_is : (n m : ℕ) (s : ℕ → ℕ) → starts_ok n m s ≡ true → (s 0 ≡ 0) × (((r : ℕ) → r < n → s r ≤ s (r + 1)) × (s n ≡ m))
unfolding starts_ok
starts_is n m s h =
    let e = both (eqb (s 0) 0 && every (rise_ok s) 0 n) (eqb (s n) m) h in
    let f = both (eqb (s 0) 0) (every (rise_ok s) 0 n) e.0 in
    (eqb-true _ _ f.0, (λ r l. leb-true _ _ (every_at (rise_ok s) 0 n f.1 r (omega arith) l), eqb-true _ _ e.1))

module _ (n : ℕ) (s c d : ℕ → ℕ) (h : every (row_ok n s c d) 0 n ≡ true) where
  row_slots : (r k : ℕ) → r < n → InRow s r k → (ltb (c k) n ≡ true) × ((eqb k (s r) || ltb (c (k - 1)) (c k)) ≡ true)
  unfolding row_ok slot_ok
  row_slots r k l i =
      let row = both (every (slot_ok n c (s r)) (s r) (s (r + 1))) _ (every_at (row_ok n s c d) 0 n h r (omega arith) l) in
      both (ltb (c k) n) (eqb k (s r) || ltb (c (k - 1)) (c k)) (every_at (slot_ok n c (s r)) (s r) (s (r + 1)) row.0 k i.0 i.1)

  pub rows_below : (r k : ℕ) → r < n → InRow s r k → c k < n
  rows_below r k l i = ltb-true _ _ (row_slots r k l i).0

  pub rows_strict : (r k : ℕ) → r < n → InRow s r k → s r < k → c (k - 1) < c k
  rows_strict r k l i g = ⊎_elim (λ t. absurd (omega (arith, eqb-true k (s r) t))) (λ t. ltb-true _ _ t)
      (either (eqb k (s r)) (ltb (c (k - 1)) (c k)) (row_slots r k l i).1)

  pub rows_home : (r : ℕ) → r < n → InRow s r (d r) × (c (d r) ≡ r)
  unfolding row_ok home_ok
  rows_home r l =
      let row = both (every (slot_ok n c (s r)) (s r) (s (r + 1))) (home_ok c (s r) (s (r + 1)) (d r) r) (every_at (row_ok n s c d) 0 n h r (omega arith) l) in
      let o = both (leb (s r) (d r) && ltb (d r) (s (r + 1))) (eqb (c (d r)) r) row.1 in
      let i = both (leb (s r) (d r)) (ltb (d r) (s (r + 1))) o.0 in
      ((leb-true _ _ i.0, ltb-true _ _ i.1), eqb-true _ _ o.1)

module _ (n m : ℕ) (s c d : ℕ → ℕ) where
  pub formed_is : well_formed n m s c d ≡ true → WellFormed n m s c d
  unfolding well_formed mirrors_ok
  formed_is h =
      let a = both (starts_ok n m s && every (row_ok n s c d) 0 n) (every (mirrors_ok s c) 0 n) h in
      let b = both (starts_ok n m s) (every (row_ok n s c d) 0 n) a.0 in
      let e = starts_is n m s b.0 in
      record {
        begins = e.0;
        rise = e.1.0;
        ends = e.1.1;
        below = rows_below n s c d b.1;
        strict = rows_strict n s c d b.1;
        home = rows_home n s c d b.1;
        mirrored = λ r col l w.
            let t = every_at (λ k. stored s c (c k) r) (s r) (s (r + 1)) (every_at (mirrors_ok s c) 0 n a.1 r (omega arith) l) w.0 w.1.0.0
            w.1.0.1 in
            rw w.1.1 at (stored_is s c (c w.0) r t);
      }

  pub formed_of : WellFormed n m s c d → well_formed n m s c d ≡ true
  unfolding well_formed starts_ok row_ok slot_ok home_ok mirrors_ok
  formed_of w =
      let slots : (r : ℕ) → r < n → every (slot_ok n c (s r)) (s r) (s (r + 1)) ≡ true =
      λ r l. every_of (slot_ok n c (s r)) (s r) (s (r + 1)) (λ k f g.
      and_true (ltb (c k) n) (eqb k (s r) || ltb (c (k - 1)) (c k)) (lt-ltb _ _ (w.below r k l (f, g)))
      (⊎_elim (λ t. rw (lt-ltb _ _ (w.strict r k l (f, g) t), or-true)) (λ t. let z : k ≡ s r = omega arith in rw (eq-eqb k (s r) z)) (below_or (s r) k))) in
      let rises : every (rise_ok s) 0 n ≡ true = every_of (rise_ok s) 0 n (λ r f l. le-leb _ _ (w.rise r l)) in
      let rows : every (row_ok n s c d) 0 n ≡ true =
      every_of (row_ok n s c d) 0 n (λ r f l.
      and_true (every (slot_ok n c (s r)) (s r) (s (r + 1))) (home_ok c (s r) (s (r + 1)) (d r) r) (slots r l)
      (rw (le-leb _ _ (w.home r l).0.0, lt-ltb _ _ (w.home r l).0.1, eq-eqb _ _ (w.home r l).1))) in
      let mirrors : every (mirrors_ok s c) 0 n ≡ true =
      every_of (mirrors_ok s c) 0 n (λ r f l. every_of (λ k. stored s c (c k) r) (s r) (s (r + 1))
      (λ k f g. stored_of s c (c k) r (w.mirrored r (c k) l (k, ((f, g), refl))))) in
      rw (eq-eqb _ _ w.begins, rises, eq-eqb _ _ w.ends, rows, mirrors)
