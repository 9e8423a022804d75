-- What follows of specs/Quick.antt: its theorems, apart from the definitions.
use Rattle.std.specs.Prelude.{ℕ, ◌+◌, ◌-◌, ◌*◌, ◌%◌, ◌≤◌, ◌<◌, ◌≡◌, true, ◌&&◌, ltb}
use Rattle.std.proofs.Math.Path.{sym, ap}
use Rattle.std.proofs.Common.{◌∙◌, arith, le_refl}
use Rattle.std.proofs.Math.Logic.{⊎_elim}
use Rattle.std.proofs.Math.Dec.{eqb}
use borrow.Author.Tests.{eqb-true, lt-ltb, eq-eqb, ne_eqb}
use Rattle.law.proofs.Loop.{from}
use Rattle.law.specs.Limit.{particles}
use Rattle.law.specs.Truth.{both, and_true, same_or, alike, holds_or, clash}
use Rattle.law.specs.Every.{every, some}
use Rattle.law.proofs.Every.{every_at, every_of, some_at, some_of}
use Rattle.law.specs.Sum.{sum, sum_none, sum_more, sum_same, sum_tight, sum_swap, sum_nothing, bit, one_of}
use Rattle.plan_fits.specs.Fits.{back_ok, undo_ok, firsts_ok, grow_ok, starts_ok, plan_rules_ok}
use Rattle.plan_fits.proofs.Fits.{undo_is}
use Rattle.plan_test.specs.Quick.{step_ok}

-- ---- order and inverse

sum_ones : (n : ℕ) → sum (λ _. 1) n ≡ n
sum_ones n = from (λ n. sum (λ _. 1) n ≡ n) 0 (sum_none (λ _. 1)) (λ k _ ih. omega (arith, ih, sum_more (λ _. 1) k)) n (omega arith)

module _ (n : ℕ) (o p : ℕ → ℕ) (h : undo_ok n o p ≡ true) where
  -- how many places have q
  times : ℕ → ℕ
  times q = sum (λ i. bit (eqb (o i) q)) n

  once : (q : ℕ) → q < n → times q ≤ 1
  unfolding times bit
  once q l = most n (le_refl n)
    where
      only : (i : ℕ) → i < n → o i ≡ q → i ≡ p q
      only i g e = sym (undo_is n o p h i g).1 ∙ ap p e

      most : (k : ℕ) → k ≤ n → sum (λ i. bit (eqb (o i) q)) k ≤ 1
      most k =
          from (λ k. k ≤ n → sum (λ i. bit (eqb (o i) q)) k ≤ 1) 0 (λ _. omega (arith, sum_none (λ i. bit (eqb (o i) q))))
          (λ k _ ih g.
          ⊎_elim
          (λ (e : o k ≡ q).
          let z : sum (λ i. bit (eqb (o i) q)) k ≡ 0 =
          sum_nothing (λ i. bit (eqb (o i) q)) k (λ i u. rw (ne_eqb (o i) q (λ v. omega (arith, only i (omega arith) v, only k (omega arith) e)))) in
          let f : bit (eqb (o k) q) ≡ 1 = rw (eq-eqb (o k) q e) in
          omega (arith, sum_more (λ i. bit (eqb (o i) q)) k))
          (λ (e : o k ≡ q → ⊥). let f : bit (eqb (o k) q) ≡ 0 = rw (ne_eqb (o k) q e) in omega
          (arith, ih (omega arith), sum_more (λ i. bit (eqb (o i) q)) k)) (same_or (o k) q)) k (omega arith)

  all : sum times n ≡ n
  unfolding times
  all = sum_swap (λ q i. bit (eqb (o i) q)) n n
      ∙ (sum_same (λ i. sum (λ q. bit (eqb (o i) q)) n) (λ _. 1) n (λ i l. one_of (o i) n (undo_is n o p h i l).0) ∙ sum_ones n)

  -- so each number below n has a place
  placed : (q : ℕ) → q < n → (i : ℕ) × ((i < n) × (o i ≡ q))
  unfolding times bit
  placed q l =
      let t = sum_tight times (λ _. 1) n once (omega (arith, all, sum_ones n)) q l in
      ⊎_elim (λ y. let w = some_at (λ i. eqb (o i) q) 0 n y in (w.0, (w.1.1.0, eqb-true _ _ w.1.1.1)))
      (λ y. absurd (let z : times q ≡ 0 = sum_nothing (λ i. bit (eqb (o i) q)) n
      (λ i g. rw (ne_eqb (o i) q (λ e. clash (some (λ i. eqb (o i) q) 0 n) y (some_of (λ i. eqb (o i) q) 0 n i (omega arith) g (eq-eqb _ _ e)))))
      in omega (arith, t, z)))
      (holds_or (some (λ i. eqb (o i) q) 0 n))

  undo_back : undo_ok n p o ≡ true
  unfolding undo_ok back_ok
  undo_back =
      every_of (back_ok n p o) 0 n (λ q _ l.
      let w = placed q l in
      let e : p q ≡ w.0 = ap p (sym w.1.1) ∙ (undo_is n o p h w.0 w.1.0).1 in
      and_true (ltb (p q) n) (eqb (o (p q)) q) (lt-ltb (p q) n (omega (arith, e, w.1.0))) (eq-eqb _ _ (ap o e ∙ w.1.1)))

pub undo_twice : (n : ℕ) (o p : ℕ → ℕ) → undo_ok n o p ≡ (undo_ok n o p && undo_ok n p o)
undo_twice n o p = alike _ _ (λ h. and_true _ _ h (undo_back n o p h)) (λ h. (both (undo_ok n o p) (undo_ok n p o) h).0)

module _ (f s : ℕ → ℕ) (rows : ℕ) (few : rows ≤ 2048) (begins : s 0 ≡ 0) where
  small : ((r : ℕ) → r < rows → s (r + 1) ≤ s r + (r - f r + 1)) → (r : ℕ) → r ≤ rows → s r ≤ 2048 * r
  small h r = from (λ r. r ≤ rows → s r ≤ 2048 * r) 0 (λ _. omega arith) (λ r _ ih l. omega (arith, ih (omega arith), h r (omega arith))) r (omega arith)

  same : ((r : ℕ) → r < rows → s (r + 1) ≤ s r + (r - f r + 1)) → (r : ℕ) → r < rows → s r % 2147483648 ≡ s r
  same h r l = omega (arith, small h r (omega arith))

  to : every (step_ok f s) 0 rows ≡ true → every (grow_ok f s) 0 rows ≡ true
  unfolding step_ok grow_ok
  to t =
      let e : (r : ℕ) → r < rows → s (r + 1) ≡ s r % 2147483648 + (r - f r + 1) = λ r l. eqb-true _ _ (every_at (step_ok f s) 0 rows t r (omega arith) l) in
      let q = same (λ r l. omega (arith, e r l)) in
      every_of (grow_ok f s) 0 rows (λ r _ l. eq-eqb (s (r + 1)) (s r + (r - f r + 1)) (omega (arith, e r l, q r l)))

  back : every (grow_ok f s) 0 rows ≡ true → every (step_ok f s) 0 rows ≡ true
  unfolding step_ok grow_ok
  back t =
      let e : (r : ℕ) → r < rows → s (r + 1) ≡ s r + (r - f r + 1) = λ r l. eqb-true _ _ (every_at (grow_ok f s) 0 rows t r (omega arith) l) in
      let q = same (λ r l. omega (arith, e r l)) in
      every_of (step_ok f s) 0 rows (λ r _ l. eq-eqb (s (r + 1)) (s r % 2147483648 + (r - f r + 1)) (omega (arith, e r l, q r l)))

pub steps_are : (n : ℕ) (f s : ℕ → ℕ) → n ≤ particles → (eqb (s 0) 0 && every (step_ok f s) 0 (2 * n)) ≡ starts_ok n f s
unfolding starts_ok
steps_are n f s l =
    alike _ _
    (λ t. let p = both (eqb (s 0) 0) (every (step_ok f s) 0 (2 * n)) t in and_true _ _ p.0 (to f s (2 * n) (omega arith) (eqb-true _ _ p.0) p.1))
    (λ t. let p = both (eqb (s 0) 0) (every (grow_ok f s) 0 (2 * n)) t in and_true _ _ p.0 (back f s (2 * n) (omega arith) (eqb-true _ _ p.0) p.1))

-- the whole test
pub quick_is : (n : ℕ) (o p f s : ℕ → ℕ) → n ≤ particles → ((undo_ok n o p && firsts_ok n f) && (eqb (s 0) 0 && every (step_ok f s) 0 (2 * n)))
    ≡ plan_rules_ok n o p f s
unfolding plan_rules_ok
quick_is n o p f s l = rw (← undo_twice n o p, steps_are n f s l)
