-- THE TEST IN ONE PASS: entries are looked at one after the other, and a list of counts has how often each number was met.
use Rattle.std.specs.List.{list_all}
use Rattle.std.proofs.lemmas.List.Folds.{list_all_more}
use Rattle.std.specs.Prelude.{ℕ, zero, suc, ◌+◌, ◌≤◌, ◌<◌, ◌≡◌, Bool, not, ◌&&◌, List, ltb, length, set, take, replicate}
use Rattle.std.proofs.Math.Path.{refl, sym, ap}
use Rattle.std.proofs.Common.{◌∙◌, add-one, arith, get_or-set_same, ltb-true, lt-ltb, eqb-true, eq-eqb, ne_eqb, le-leb}
use Rattle.std.proofs.Math.Bool.{true, false, and-false}
use Rattle.std.proofs.Math.Logic.{⊎_elim}
use Rattle.std.proofs.Math.Dec.{eqb}
use Rattle.std.proofs.Math.ListN.{get_or-replicate}
use Rattle.std.proofs.Math.Seq.{get_or-set_other}
use Rattle.std.proofs.lemmas.Bool.{lt-leb, not-true, not-false}
use Rattle.law.specs.Limit.{columns, unloaded}
use Rattle.law.specs.Truth.{both, and_true, or_left, or_right, same_or, untrue, clash}
use Rattle.law.proofs.Loop.{over_same, from}
use Rattle.law.specs.Every.{every}
use Rattle.law.proofs.Every.{every_none, every_more, every_at, every_of}
use Rattle.law.specs.Sum.{sum, bit, sum_none, sum_more}
use Rattle.matrix_shape.specs.Rows.{at}
use Rattle.columns_table.specs.Table.{entry_ok, times, numbered, table_ok}

-- the first k entries are in order, and each number was met as often as the list has it
pub record Met (pinned : List ℕ) (count : ℕ) (table : List ℕ) (k : ℕ) (seen : List ℕ) : Type 0 where
  pub good : every (entry_ok pinned count table) 0 k ≡ true
  pub counts : (c : ℕ) → c < count → at seen c ≡ times k table c

-- what a pass up to k answers and leaves
pub record Passed (pinned : List ℕ) (count : ℕ) (table : List ℕ) (k : ℕ) (r : Bool) (seen : List ℕ) : Type 0 where
  pub same : r ≡ every (entry_ok pinned count table) 0 k
  pub met : r ≡ true → Met pinned count table k seen

pub times_more : (table : List ℕ) (c k : ℕ) → times (k + 1) table c ≡ times k table c + bit (eqb (at table k) c)
unfolding times
times_more table c k = sum_more (λ p. bit (eqb (at table p) c)) k

bit_most : (t : Bool) → bit t ≤ 1
unfolding bit
bit_most true = omega arith
bit_most false = omega arith

-- a number is met at most once for each entry
pub times_most : (table : List ℕ) (c k : ℕ) → times k table c ≤ k
unfolding times sum
times_most table c zero = omega arith
times_most table c (suc k) = omega (arith, times_most table c k, bit_most (eqb (at table k) c))

-- the counts 0..n are 1, as the code asks it
pub once_each : (seen : List ℕ) (n : ℕ) → n ≤ length seen → list_all (λ s. eqb s 1) (take n seen) ≡ every (λ c. eqb (at seen c) 1) 0 n
once_each seen zero l = every_none (λ c. eqb (at seen c) 1) 0
once_each seen (suc n) l =
    rw (← add-one n) (list_all_more (λ s. eqb s 1) seen n 0 (omega arith) ∙ ap (λ (t : Bool). t && eqb (at seen n) 1) (once_each seen n (omega arith))
    ∙ every_more (λ c. eqb (at seen c) 1) 0 n (omega arith))

module _ (pinned : List ℕ) (count : ℕ) (table : List ℕ) where
  pub met_none : (m : ℕ) → count ≤ m → Met pinned count table 0 (replicate m 0)
  unfolding times
  met_none m l = record {
    good = sym (every_none (entry_ok pinned count table) 0);
    counts = λ c h. get_or-replicate m c 0 0 (omega arith) ∙ sym (sum_none (λ p. bit (eqb (at table p) c)));
  }

  good_more : (k : ℕ) → every (entry_ok pinned count table) 0 k ≡ true → entry_ok pinned count table k ≡ true
      → every (entry_ok pinned count table) 0 (k + 1) ≡ true
  good_more k h e = sym (every_more (entry_ok pinned count table) 0 k (omega arith)) ∙ and_true _ _ h e

  -- an entry that isn't loaded
  pub met_bare : (k : ℕ) (seen : List ℕ) → count ≤ columns → Met pinned count table k seen → at table k ≡ unloaded
      → Met pinned count table (k + 1) seen
  unfolding entry_ok bit
  met_bare k seen few m e = record {
    good = good_more k m.good (or_left (eqb (at table k) unloaded) (ltb (at table k) count && eqb (at pinned k) 0) (eq-eqb _ _ e));
    counts = λ c l.
        let z : bit (eqb (at table k) c) ≡ 0 = rw (ne_eqb (at table k) c (λ d. omega arith)) in
        omega (arith, m.counts c l, times_more table c k);
  }

  -- entries of which none is loaded
  pub met_bares : (a b : ℕ) (seen : List ℕ) → a ≤ b → count ≤ columns → Met pinned count table a seen
      → every (λ k. eqb (at table k) unloaded) a b ≡ true → Met pinned count table b seen
  met_bares a b seen l few m =
      from (λ b. every (λ k. eqb (at table k) unloaded) a b ≡ true → Met pinned count table b seen) a (λ _. m)
      (λ k q ih h.
      let e = both (every (λ k. eqb (at table k) unloaded) a k) (eqb (at table k) unloaded)
      (every_more (λ k. eqb (at table k) unloaded) a k q ∙ h) in
      met_bare k seen few (ih e.0) (eqb-true _ _ e.1))
      b l

  -- an entry with a number
  pub met_one : (k j : ℕ) (seen : List ℕ) → count ≤ length seen → Met pinned count table k seen → j ≡ at table k → j < count → at pinned k ≡ 0
      → Met pinned count table (k + 1) (set seen j (at seen j + 1))
  unfolding entry_ok bit
  met_one k j seen room m e l free = record {
    good = good_more k m.good (or_right (eqb (at table k) unloaded) (ltb (at table k) count && eqb (at pinned k) 0)
        (and_true _ _ (lt-ltb (at table k) count (omega arith)) (eq-eqb _ _ free)));
    counts = λ c h. ⊎_elim
        (λ d.
        let z : bit (eqb (at table k) j) ≡ 1 = rw (eq-eqb (at table k) j (sym e)) in
        rw d (get_or-set_same seen j (at seen j + 1) 0 (omega arith) ∙ omega (arith, m.counts j l, times_more table j k)))
        (λ d.
        let z : bit (eqb (at table k) c) ≡ 0 = rw (ne_eqb (at table k) c (λ f. d (sym (e ∙ f)))) in
        get_or-set_other seen j c (at seen j + 1) 0 d ∙ omega (arith, m.counts c h, times_more table c k)) (same_or c j);
  }

  -- the code's test of a number j that it read
  pub is_number : (j x : ℕ) → not (ltb j count && eqb x 0) ≡ false → (j < count) × (x ≡ 0)
  is_number j x h = let b = both (ltb j count) (eqb x 0) (not-false _ h) in (ltb-true _ _ b.0, eqb-true _ _ b.1)

  pub passed_all : (k : ℕ) (seen : List ℕ) → Met pinned count table k seen → Passed pinned count table k true seen
  passed_all k seen m = record { same = sym m.good; met = λ _. m }

  -- a fault: a number that is none, or a pinned particle's
  pub passed_not : (k j n : ℕ) (seen : List ℕ) → k < n → (at table k ≡ unloaded → ⊥) → j ≡ at table k → not (ltb j count && eqb (at pinned k) 0) ≡ true
      → Passed pinned count table n false seen
  unfolding entry_ok
  passed_not k j n seen l ne e h =
      let f : (ltb (at table k) count && eqb (at pinned k) 0) ≡ false = rw e at (not-true (ltb j count && eqb (at pinned k) 0) h) in
      record {
        same = sym (untrue (every (entry_ok pinned count table) 0 n)
            (λ g. clash (entry_ok pinned count table k) (rw (ne_eqb _ _ ne, f)) (every_at (entry_ok pinned count table) 0 n g k (omega arith) l)));
        met = λ g. absurd (clash false refl g);
      }

  -- a fault among the first k
  pub passed_early : (k n : ℕ) (seen : List ℕ) (r : Bool) → k ≤ n → Passed pinned count table k r seen → r ≡ false
      → Passed pinned count table n false seen
  passed_early k n seen r l p f = record {
    same = sym (untrue (every (entry_ok pinned count table) 0 n)
        (λ g. clash (every (entry_ok pinned count table) 0 k) (sym p.same ∙ f)
        (every_of (entry_ok pinned count table) 0 k (λ j a b. every_at (entry_ok pinned count table) 0 n g j a (omega arith)))));
    met = λ g. absurd (clash false refl g);
  }

  -- ---- the whole test, as the code goes through it: r is what the pass answered, o whether each number was met once

  pub too_many : (n : ℕ) → columns < count → false ≡ table_ok n pinned count table
  unfolding table_ok
  too_many n l = rw (lt-leb count columns l)

  pub has_fault : (n : ℕ) (seen : List ℕ) (r : Bool) → Passed pinned count table n r seen → r ≡ false → false ≡ table_ok n pinned count table
  unfolding table_ok numbered
  has_fault n seen r p f = let e : every (entry_ok pinned count table) 0 n ≡ false = sym p.same ∙ f in rw (e, and-false)

  pub has_none : (n : ℕ) (seen : List ℕ) (r o : Bool) → count ≤ columns → Passed pinned count table n r seen → r ≡ true
      → o ≡ every (λ c. eqb (at seen c) 1) 0 count → o ≡ table_ok n pinned count table
  unfolding table_ok numbered every
  has_none n seen r o l p f e =
      let m = p.met f in
      rw (le-leb count columns l, m.good) (e ∙ over_same _ _ 0 count true
      (λ c ok _ h. ap (λ (x : ℕ). ok && eqb x 1) (m.counts c h)))
