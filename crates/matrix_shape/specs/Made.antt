-- THE PATTERN OF A TEST: which blocks are stored is a test p of row and column. Row r's columns are the numbers below n that p passes with r, the least
-- first; rows stand one after the other. It is well formed where each row stores its diagonal and block (c,r) is stored whenever (r,c) is.
use Rattle.std.specs.Prelude.{ℕ, ◌+◌, ◌-◌, ◌≤◌, ◌<◌, ◌≡◌, Bool, true, List, [], ◌∷◌, ◌++◌}
use Rattle.std.proofs.Math.Path.{refl, ap}
use Rattle.std.proofs.Common.{sym, ◌∙◌}
use native.Mathlib.Omega.{arith}
use Rattle.std.proofs.Math.ListN.{length, length-append, get_or-append}
use Rattle.law.specs.Gather.{gather, up_to, table}
use Rattle.law.proofs.Gather.{up_to_none, up_to_more, up_to_rise, gather_at, gather_same, length_table, table_at}
use Rattle.law.specs.Keep.{keep, rank}
use Rattle.law.proofs.Keep.{keep_has, keep_at, keep_rise, keep_same}
use Rattle.matrix_shape.specs.Formed.{InRow, Stored, WellFormed}
use Rattle.matrix_shape.specs.Rows.{at, Held}

-- the columns of row r
unfoldable pub row_of : ℕ → (ℕ → ℕ → Bool) → ℕ → List ℕ
row_of n p r = keep (p r) 0 n

unfoldable pub cols_of : ℕ → (ℕ → ℕ → Bool) → List ℕ
cols_of n p = gather (row_of n p) 0 n

-- row r starts behind all columns of the rows before it
unfoldable pub start_of : ℕ → (ℕ → ℕ → Bool) → ℕ → ℕ
start_of n p r = up_to (row_of n p) r

-- row r's diagonal stands behind the row's columns below r
unfoldable pub slot_of : ℕ → (ℕ → ℕ → Bool) → ℕ → ℕ
slot_of n p r = start_of n p r + rank (p r) r

unfoldable pub starts_of : ℕ → (ℕ → ℕ → Bool) → List ℕ
starts_of n p = table (start_of n p) (n + 1)

unfoldable pub slots_of : ℕ → (ℕ → ℕ → Bool) → List ℕ
slots_of n p = table (slot_of n p) n

-- the lists begin with the pattern; what stands behind it is open
pub record Begins (n : ℕ) (p : ℕ → ℕ → Bool) (starts cols diagonal : List ℕ) : Type 0 where
  pub held : Held n (start_of n p n) starts cols diagonal
  pub start : (r : ℕ) → r ≤ n → at starts r ≡ start_of n p r
  pub slot : (r : ℕ) → r < n → at diagonal r ≡ slot_of n p r
  pub column : (r j : ℕ) → r < n → j < length (row_of n p r) → at cols (start_of n p r + j) ≡ at (row_of n p r) j

module _ (n : ℕ) (p : ℕ → ℕ → Bool) where
  pub length_cols : length (cols_of n p) ≡ start_of n p n
  unfolding cols_of start_of up_to
  length_cols = refl

  pub length_row : (r : ℕ) → length (row_of n p r) ≡ rank (p r) n
  unfolding row_of up_to
  length_row r = refl

  pub start_none : start_of n p 0 ≡ 0
  unfolding start_of
  start_none = up_to_none (row_of n p)

  pub start_more : (r : ℕ) → start_of n p (r + 1) ≡ start_of n p r + length (row_of n p r)
  unfolding start_of
  start_more r = up_to_more (row_of n p) r

  pub start_rise : (r q : ℕ) → r ≤ q → start_of n p r ≤ start_of n p q
  unfolding start_of
  start_rise r q l = up_to_rise (row_of n p) r q l

  cols_at : (r j : ℕ) → r < n → j < length (row_of n p r) → at (cols_of n p) (start_of n p r + j) ≡ at (row_of n p r) j
  unfolding cols_of start_of
  cols_at r j l h = gather_at (row_of n p) n r j 0 l h

  -- the definition itself, with any rest behind it
  pub begins : (s c d : List ℕ) → Begins n p (starts_of n p ++ s) (cols_of n p ++ c) (slots_of n p ++ d)
  unfolding starts_of slots_of
  begins s c d = record {
    held = record {
      places = rw length-append (omega (arith, length_table (start_of n p) (n + 1)));
      columns = rw length-append (omega (arith, length_cols));
      marks = rw length-append (omega (arith, length_table (slot_of n p) n));
    };
    start = λ r l. get_or-append (table (start_of n p) (n + 1)) s 0 r (omega (arith, length_table (start_of n p) (n + 1)))
        ∙ table_at (start_of n p) (n + 1) r (omega arith);
    slot = λ r l. get_or-append (table (slot_of n p) n) d 0 r (omega (arith, length_table (slot_of n p) n)) ∙ table_at (slot_of n p) n r l;
    column = λ r j l h. get_or-append (cols_of n p) c 0 (start_of n p r + j)
        (omega (arith, length_cols, start_more r, start_rise (r + 1) n (omega arith))) ∙ cols_at r j l h;
  }

  module _ (starts cols diagonal : List ℕ) (h : Begins n p starts cols diagonal) where
    -- what stands in a slot of row r
    slot_is : (r k : ℕ) → r < n → start_of n p r ≤ k → k < start_of n p (r + 1) → at cols k ≡ at (row_of n p r) (k - start_of n p r)
    slot_is r k l a b =
        let e : start_of n p r + (k - start_of n p r) ≡ k = omega arith in
        rw e at (h.column r (k - start_of n p r) l (omega (arith, start_more r)))

    column_of : (r k : ℕ) → r < n → start_of n p r ≤ k → k < start_of n p (r + 1) → (c : ℕ)
        × ((c < n) × ((p r c ≡ true) × ((k ≡ start_of n p r + rank (p r) c) × (at cols k ≡ c))))
    unfolding row_of
    column_of r k l a b =
        let t = keep_at (p r) n (k - start_of n p r) (omega (arith, start_more r, length_row r)) in
        (t.0, (t.1.0, (t.1.1.0, (omega (arith, t.1.1.1.0), slot_is r k l a b ∙ t.1.1.1.1))))

    -- a stored block has its slot
    slot_for : (r c : ℕ) → r < n → c < n → p r c ≡ true → (start_of n p r + rank (p r) c < start_of n p (r + 1)) × (at cols (start_of n p r + rank (p r) c) ≡ c)
    unfolding row_of
    slot_for r c l m t =
        let q = keep_has (p r) n c m t in
        (omega (arith, q.0, start_more r, length_row r), h.column r (rank (p r) c) l (omega (arith, q.0, length_row r)) ∙ q.1)

    -- the row of the lists is the row of the definition
    here : (r k : ℕ) → r < n → InRow (at starts) r k → (start_of n p r ≤ k) × (k < start_of n p (r + 1))
    here r k l i = rw (h.start r (omega arith), h.start (r + 1) (omega arith)) at i

    there : (r k : ℕ) → r < n → start_of n p r ≤ k → k < start_of n p (r + 1) → InRow (at starts) r k
    there r k l a b = rw (h.start r (omega arith), h.start (r + 1) (omega arith)) (a, b)

    -- THE STORED BLOCKS ARE THOSE THAT THE TEST PASSES
    pub stored_passes : (r c : ℕ) → r < n → Stored (at starts) (at cols) r c → (c < n) × (p r c ≡ true)
    stored_passes r c l w =
        let a = here r w.0 l w.1.0 in
        let t = column_of r w.0 l a.0 a.1 in
        let same : t.0 ≡ c = sym t.1.1.1.1 ∙ w.1.1 in
        (rw same at t.1.0, rw same at t.1.1.0)

    pub passes_stored : (r c : ℕ) → r < n → c < n → p r c ≡ true → Stored (at starts) (at cols) r c
    passes_stored r c l m t = let q = slot_for r c l m t in (
      start_of n p r + rank (p r) c,
      (
        there r (start_of n p r + rank (p r) c) l (omega arith)
            q.0,
        q.1,
      ),
    )

    module _ (own : (r : ℕ) → r < n → p r r ≡ true) (twin : (r c : ℕ) → p r c ≡ true → p c r ≡ true) where
      pub well_formed : WellFormed n (start_of n p n) (at starts) (at cols) (at diagonal)
      unfolding slot_of row_of
      well_formed = record {
        begins = h.start 0 (omega arith) ∙ start_none;
        rise = λ r l. rw (h.start r (omega arith), h.start (r + 1) (omega arith)) (start_rise r (r + 1) (omega arith));
        ends = h.start n (omega arith);
        below = λ r k l i. let t = column_of r k l (here r k l i).0 (here r k l i).1 in rw t.1.1.1.1 t.1.0;
        strict = λ r k l i g.
            let a = here r k l i in
            let g' : start_of n p r < k = rw (h.start r (omega arith)) at g in
            let e : (k - 1) - start_of n p r + 1 ≡ k - start_of n p r = omega arith in
            rw (slot_is r (k - 1) l (omega arith) (omega (arith, a.1)), slot_is r k l a.0 a.1)
            (rw e at (keep_rise (p r) n ((k - 1) - start_of n p r) (omega (arith, a.1, start_more r, length_row r))));
        home = λ r l.
            let q = slot_for r r l l (own r l) in
            rw (h.slot r l) (there r (slot_of n p r) l (omega arith) q.0, q.1);
        mirrored = λ r col l w. let t = stored_passes r col l w in passes_stored col r t.0 l (twin r col t.1);
      }

-- tests that agree below n give the same pattern
module _ (n : ℕ) (p q : ℕ → ℕ → Bool) (agree : (r c : ℕ) → r < n → c < n → p r c ≡ q r c) where
  same_row : (r : ℕ) → r < n → row_of n p r ≡ row_of n q r
  unfolding row_of
  same_row r l = keep_same (p r) (q r) 0 n (omega arith) (λ c u v. agree r c l v)

  pub same_start : (r : ℕ) → r ≤ n → start_of n p r ≡ start_of n q r
  unfolding start_of up_to
  same_start r l = ap length (gather_same (row_of n p) (row_of n q) 0 r (omega arith) (λ i u v. same_row i (omega arith)))

  pub same_cols : cols_of n p ≡ cols_of n q
  unfolding cols_of
  same_cols = gather_same (row_of n p) (row_of n q) 0 n (omega arith) (λ i u v. same_row i v)

  pub same_starts : starts_of n p ≡ starts_of n q
  unfolding starts_of
  same_starts = gather_same (λ r. start_of n p r ∷ []) (λ r. start_of n q r ∷ []) 0 (n + 1) (omega arith)
      (λ i u v. ap (λ (x : ℕ). x ∷ []) (same_start i (omega arith)))

  same_rank : (r : ℕ) → r < n → rank (p r) r ≡ rank (q r) r
  unfolding up_to
  same_rank r l = ap length (keep_same (p r) (q r) 0 r (omega arith) (λ c u v. agree r c l (omega arith)))

  pub same_slots : slots_of n p ≡ slots_of n q
  unfolding slots_of slot_of
  same_slots =
      gather_same (λ r. slot_of n p r ∷ []) (λ r. slot_of n q r ∷ []) 0 n (omega arith)
      (λ i u v. ap (λ (x : ℕ). x ∷ []) (ap (λ (x : ℕ). x + rank (p i) i) (same_start i (omega arith)) ∙ ap (λ (x : ℕ). start_of n q i + x) (same_rank i v)))
