-- What follows of specs/Fits.antt: its theorems, apart from the definitions.
use Rattle.std.specs.Prelude.{ℕ, ◌+◌, ◌*◌, ◌%◌, ◌≤◌, ◌<◌, ◌≡◌, refl, ◌&&◌, leb, ltb, eqb}
use Rattle.std.proofs.Math.Bool.{true}
use Rattle.std.proofs.Math.Logic.{⊎_elim}
use Rattle.std.proofs.Common.{arith}
use borrow.Author.Tests.{leb-true, ltb-true, eqb-true, le-leb, lt-ltb, eq-eqb}
use Rattle.law.specs.Truth.{both, and_true, either, or_right, below_or}
use Rattle.law.specs.Every.{every}
use Rattle.law.proofs.Every.{every_at, every_of}
use Rattle.plan_fits.specs.Fits.{Fits, Inside, PlanRules, back_ok, firsts_ok, fits_ok, grow_ok, inside_ok, plan_rules_ok, row_ok, slot_ok, starts_ok, twins_ok, undo_ok}

-- ---- what each part of the tests says

pub undo_is : (n : ℕ) (o p : ℕ → ℕ) → undo_ok n o p ≡ true → (i : ℕ) → i < n → (o i < n) × (p (o i) ≡ i)
unfolding undo_ok back_ok
undo_is n o p h i l =
    let t = both (ltb (o i) n) (eqb (p (o i)) i) (every_at (back_ok n o p) 0 n h i (omega arith) l) in
    (ltb-true _ _ t.0, eqb-true _ _ t.1)

undo_of : (n : ℕ) (o p : ℕ → ℕ) → ((i : ℕ) → i < n → o i < n) → ((i : ℕ) → i < n → p (o i) ≡ i) → undo_ok n o p ≡ true
unfolding undo_ok back_ok
undo_of n o p below back = every_of (back_ok n o p) 0 n (λ i h l. and_true (ltb (o i) n) (eqb (p (o i)) i) (lt-ltb _ _ (below i l)) (eq-eqb _ _ (back i l)))

pub firsts_is : (n : ℕ) (f : ℕ → ℕ) → firsts_ok n f ≡ true → (i : ℕ) → i < n → (f (2 * i) ≡ f (2 * i + 1)) × ((f (2 * i) % 2 ≡ 0) × (f (2 * i) ≤ 2 * i))
unfolding firsts_ok twins_ok
firsts_is n f h i l =
    let a = both (eqb (f (2 * i)) (f (2 * i + 1)) && eqb (f (2 * i) % 2) 0) (leb (f (2 * i)) (2 * i)) (every_at (twins_ok f) 0 n h i (omega arith) l) in
    let b = both (eqb (f (2 * i)) (f (2 * i + 1))) (eqb (f (2 * i) % 2) 0) a.0 in
    (eqb-true _ _ b.0, (eqb-true _ _ b.1, leb-true _ _ a.1))

-- ---- the tests pass exactly for the plans that fit by RULES.md § 6

module _ (n : ℕ) (o p f s : ℕ → ℕ) where
  pub planned_is : plan_rules_ok n o p f s ≡ true → PlanRules n o p f s
  unfolding plan_rules_ok starts_ok grow_ok
  planned_is h =
      let a = both ((undo_ok n o p && undo_ok n p o) && firsts_ok n f) (starts_ok n f s) h in
      let b = both (undo_ok n o p && undo_ok n p o) (firsts_ok n f) a.0 in
      let u = both (undo_ok n o p) (undo_ok n p o) b.0 in
      let g = both (eqb (s 0) 0) (every (grow_ok f s) 0 (2 * n)) a.1 in
      record {
        particle = λ i l. (undo_is n o p u.0 i l).0;
        back = λ i l. (undo_is n o p u.0 i l).1;
        position = λ q l. (undo_is n p o u.1 q l).0;
        forth = λ q l. (undo_is n p o u.1 q l).1;
        same = λ i l. (firsts_is n f b.1 i l).0;
        even = λ i l. (firsts_is n f b.1 i l).1.0;
        most = λ i l. (firsts_is n f b.1 i l).1.1;
        begins = eqb-true _ _ g.0;
        grow = λ r l. eqb-true _ _ (every_at (grow_ok f s) 0 (2 * n) g.1 r (omega arith) l);
      }

  pub planned_of : PlanRules n o p f s → plan_rules_ok n o p f s ≡ true
  unfolding plan_rules_ok firsts_ok twins_ok starts_ok grow_ok
  planned_of w =
      let firsts : every (twins_ok f) 0 n ≡ true =
      every_of (twins_ok f) 0 n (λ i h l. rw (eq-eqb _ _ (w.same i l), eq-eqb _ _ (w.even i l), le-leb _ _ (w.most i l))) in
      let grows : every (grow_ok f s) 0 (2 * n) ≡ true = every_of (grow_ok f s) 0 (2 * n) (λ r h l. eq-eqb _ _ (w.grow r l)) in
      rw (undo_of n o p w.particle w.back, undo_of n p o w.position w.forth, firsts, eq-eqb _ _ w.begins, grows)

module _ (n : ℕ) (t c p f : ℕ → ℕ) where
  pub inside_is : inside_ok n t c p f ≡ true → Inside n t c p f
  unfolding inside_ok row_ok slot_ok
  inside_is h r col l w g =
      let row = every_at (row_ok t c p f) 0 n h r (omega arith) l in
      let k = every_at (slot_ok c p (p r) (f (2 * p r))) (t r) (t (r + 1)) row w.0 w.1.0.0 w.1.0.1 in
      let e = either (ltb (p r) (p col)) (leb (f (2 * p r)) (2 * p col)) (rw w.1.1 at k) in
      ⊎_elim (λ a. absurd (omega (arith, ltb-true (p r) (p col) a))) (λ a. leb-true _ _ a) e

  pub inside_of : Inside n t c p f → inside_ok n t c p f ≡ true
  unfolding inside_ok row_ok slot_ok
  inside_of w =
      every_of (row_ok t c p f) 0 n (λ r h l. every_of (slot_ok c p (p r) (f (2 * p r))) (t r) (t (r + 1)) (λ k a b.
      ⊎_elim (λ g. rw (lt-ltb (p r) (p (c k)) g)) (λ g. or_right (ltb (p r) (p (c k))) _ (le-leb _ _ (w r (c k) l (k, ((a, b), refl)) g)))
      (below_or (p r) (p (c k)))))

module _ (n : ℕ) (t c o p f s : ℕ → ℕ) where
  pub fits_is : fits_ok n t c o p f s ≡ true → Fits n t c o p f s
  unfolding fits_ok
  fits_is h =
      let a = both (plan_rules_ok n o p f s) (inside_ok n t c p f) h in
      record { planned = planned_is n o p f s a.0; inside = inside_is n t c p f a.1 }

  pub fits_of : Fits n t c o p f s → fits_ok n t c o p f s ≡ true
  unfolding fits_ok
  fits_of w = and_true (plan_rules_ok n o p f s) (inside_ok n t c p f) (planned_of n o p f s w.planned) (inside_of n t c p f w.inside)
