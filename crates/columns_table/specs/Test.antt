-- THE TEST OF A TABLE IS THE SENTENCE: `table_ok` passes exactly if `Numbered` holds.
use Prim.Native.Nat.{ℕ, zero, suc, ◌+◌, ◌≤◌, ◌<◌}
use Rattle.std.specs.Prelude.{◌≡◌, refl, Bool, ◌&&◌, List, ltb, leb}
use Rattle.std.proofs.Math.Path.{sym, ap}
use Rattle.std.proofs.Common.{◌∙◌, le_refl}
use Rattle.std.proofs.Math.Bool.{true}
use Rattle.std.proofs.Math.Logic.{⊎_elim}
use native.Mathlib.Omega.{arith}
use Rattle.std.proofs.Math.Dec.{eqb}
use borrow.Author.Tests.{leb-true, le-leb, ltb-true, lt-ltb, eqb-true, eq-eqb, ne_eqb}
use Rattle.law.specs.Limit.{columns, unloaded}
use Rattle.law.specs.Truth.{both, and_true, either, or_left, or_right, holds_or, same_or, alike}
use Rattle.law.specs.Every.{every}
use Rattle.law.proofs.Every.{every_at, every_of}
use Rattle.law.specs.Sum.{sum, bit, sum_same, sum_most, sum_plus, one_of}
use Rattle.matrix_shape.specs.Rows.{at}
use Rattle.columns_table.specs.Table.{Numbered, entry_ok, times, numbered, table_ok}

-- ---- how many numbers below n pass a test

module _ (t : ℕ → Bool) where
  -- where there are some, one can be named
  pub named : (n : ℕ) → 0 < sum (λ k. bit (t k)) n → (p : ℕ) × ((p < n) × (t p ≡ true))
  unfolding sum bit
  named zero h = absurd (omega arith)
  named (suc n) h =
      ⊎_elim (λ e. (n, (omega arith, e))) (λ e. let q = named n (let z : bit (t n) ≡ 0 = rw e in omega arith) in (q.0, (omega (arith, q.1.0), q.1.1)))
      (holds_or (t n))

  met : (p k : ℕ) → t p ≡ true → bit (eqb p k) ≤ bit (t k)
  unfolding bit
  met p k h =
      ⊎_elim (λ e. rw (eq-eqb p k e, ap t (sym e) ∙ h) (le_refl 1)) (λ e. rw (ne_eqb p k e) (omega arith)) (same_or p k)

  -- two that pass count as two
  pub two_pass : (n p q : ℕ) → p < n → q < n → t p ≡ true → t q ≡ true → (p ≡ q → ⊥) → 2 ≤ sum (λ k. bit (t k)) n
  unfolding bit
  two_pass n p q l m h g ne =
      let f : (k : ℕ) → k < n → bit (eqb p k) + bit (eqb q k) ≤ bit (t k) = λ k _.
      ⊎_elim (λ e. rw (ne_eqb q k (λ d. ne (e ∙ sym d))) (omega (arith, met p k h))) (λ e. rw (ne_eqb p k e) (omega (arith, met q k g))) (same_or p k) in
      omega (
        arith,
        sum_most (λ k. bit (eqb p k) + bit (eqb q k)) (λ k. bit (t k)) n f,
        sum_plus (λ k. bit (eqb p k)) (λ k. bit (eqb q k)) n,
        one_of p n l,
        one_of q n m,
      )

  -- the only one that passes counts as one
  pub one_passes : (n p : ℕ) → p < n → t p ≡ true → ((k : ℕ) → k < n → t k ≡ true → p ≡ k) → sum (λ k. bit (t k)) n ≡ 1
  one_passes n p l h only =
      sum_same (λ k. bit (t k)) (λ k. bit (eqb p k)) n
      (λ k g. ap bit (alike (t k) (eqb p k) (λ e. eq-eqb p k (only k g e)) (λ e. ap t (sym (eqb-true p k e)) ∙ h))) ∙ one_of p n l

-- ---- both ways

module _ (n : ℕ) (pinned : List ℕ) (count : ℕ) (table : List ℕ) where
  -- what an entry in order says
  pub entry_is : (p : ℕ) → entry_ok pinned count table p ≡ true → (at table p ≡ unloaded → ⊥) → (at table p < count) × (at pinned p ≡ 0)
  unfolding entry_ok
  entry_is p h g =
      ⊎_elim (λ e. absurd (g (eqb-true _ _ e)))
      (λ e. let b = both (ltb (at table p) count) (eqb (at pinned p) 0) e in (ltb-true _ _ b.0, eqb-true _ _ b.1))
      (either (eqb (at table p) unloaded) (ltb (at table p) count && eqb (at pinned p) 0) h)

  pub numbered_is : table_ok n pinned count table ≡ true → Numbered n pinned count table
  unfolding table_ok numbered times
  numbered_is h =
      let a = both (leb count columns) (numbered n pinned count table) h in
      let b = both (every (entry_ok pinned count table) 0 n) (every (λ c. eqb (times n table c) 1) 0 count) a.1 in
      let entry : (p : ℕ) → p < n → (at table p ≡ unloaded → ⊥) → (at table p < count) × (at pinned p ≡ 0) =
      λ p l g. entry_is p (every_at (entry_ok pinned count table) 0 n b.0 p (omega arith) l) g in
      let one : (c : ℕ) → c < count → times n table c ≡ 1 =
      λ c l. eqb-true _ _ (every_at (λ c. eqb (times n table c) 1) 0 count b.1 c (omega arith) l) in
      record {
        few = leb-true _ _ a.0;
        inside = λ p l g. (entry p l g).0;
        unpinned = λ p l g. (entry p l g).1;
        each = λ c l. let q = named (λ p. eqb (at table p) c) n (omega (arith, one c l)) in (q.0, (q.1.0, eqb-true _ _ q.1.1));
        once = λ p q l m g e.
            ⊎_elim (λ d. d)
            (λ d. absurd (omega (
              arith,
              one (at table p) (entry p l g).0,
              two_pass (λ k. eqb (at table k) (at table p)) n p q l m (eq-eqb (at table p) (at table p) refl) (eq-eqb (at table q) (at table p) (sym e)) d,
            ))) (same_or p q);
      }

  pub numbered_of : Numbered n pinned count table → table_ok n pinned count table ≡ true
  unfolding table_ok numbered times entry_ok
  numbered_of w =
      let entries : every (entry_ok pinned count table) 0 n ≡ true = every_of (entry_ok pinned count table) 0 n (λ p _ l.
      ⊎_elim (λ e. or_left (eqb (at table p) unloaded) (ltb (at table p) count && eqb (at pinned p) 0) (eq-eqb _ _ e))
      (λ e. or_right (eqb (at table p) unloaded) (ltb (at table p) count && eqb (at pinned p) 0)
      (and_true (ltb (at table p) count) (eqb (at pinned p) 0) (lt-ltb _ _ (w.inside p l e)) (eq-eqb _ _ (w.unpinned p l e))))
      (same_or (at table p) unloaded)) in
      let once : every (λ c. eqb (times n table c) 1) 0 count ≡ true = every_of (λ c. eqb (times n table c) 1) 0 count (λ c _ l.
      let q = w.each c l in
      let e = q.1.1 in
      eq-eqb _ _ (one_passes (λ p. eqb (at table p) c) n q.0 q.1.0 (eq-eqb _ _ e)
      (λ k g h. w.once q.0 k q.1.0 g (λ u. omega (arith, w.few)) (e ∙ sym (eqb-true _ _ h))))) in
      and_true (leb count columns) (numbered n pinned count table) (le-leb _ _ w.few)
      (and_true (every (entry_ok pinned count table) 0 n) (every (λ c. eqb (times n table c) 1) 0 count) entries once)
