-- A PATTERN IN LISTS OF JUST ITS LENGTH: the form in which the ordering takes it. Every well formed pattern gives one, cut out of the lists that hold it.
use Rattle.std.specs.Prelude.{ℕ, suc, ◌+◌, ◌-◌, ◌≤◌, ◌<◌, ◌≡◌, List, length, get_or, take}
use Rattle.std.proofs.Common.{arith, add-one, sym, ◌∙◌, ⊎_elim, length-take-le, get_or-take}
use Rattle.std.specs.Coded.{×_prop, le_prop, Coded-set, coded_ℕ}
use mathlib.Core.HLevel.{Σ_prop_path}
use Rattle.law.proofs.Loop.{climbing}
use Rattle.law.specs.Truth.{below_or}
use Rattle.matrix_shape.specs.Formed.{InRow, Stored}
use Rattle.matrix_shape.specs.Rows.{at, Pattern, row_of, row_end}

pub record Tight (n : ℕ) (starts cols : List ℕ) : Type 0 where
  pub rows : length starts ≡ suc n
  pub ends : get_or starts n 0 ≡ length cols
  pub rise : (r : ℕ) → r < n → get_or starts r 0 ≤ get_or starts (suc r) 0
  pub below : (k : ℕ) → k < length cols → get_or cols k 0 < n
  pub strict : (r k : ℕ) → r < n → get_or starts r 0 ≤ k → suc k < get_or starts (suc r) 0 → get_or cols k 0 < get_or cols (suc k) 0
  pub diagonal : (r : ℕ) → r < n → Stored (at starts) (at cols) r r

-- there is but one proof of it, since a row has no column twice
module _ (n : ℕ) (starts cols : List ℕ) where
  apart : Tight n starts cols → (r j k : ℕ) → r < n → InRow (at starts) r j → InRow (at starts) r k → j < k → at cols j < at cols k
  apart t r j k l a b h =
      climbing (at cols) (at starts r) (at starts (suc r))
      (λ m g u. let e : suc (m - 1) ≡ m = omega arith in rw e at (t.strict r (m - 1) l (omega arith) (rw e u)))
      j k a.0 h (rw (add-one r) at b.1)

  one_slot : Tight n starts cols → (r : ℕ) → r < n → (s u : Stored (at starts) (at cols) r r) → s ≡ u
  one_slot t r l s u = Σ_prop_path (λ k. ×_prop (×_prop le_prop le_prop) (Coded-set coded_ℕ _ _)) same
    where
      same : s.0 ≡ u.0
      same =
          ⊎_elim (λ h. absurd (omega (arith, apart t r s.0 u.0 l s.1.0 u.1.0 h, s.1.1, u.1.1)))
          (λ g. ⊎_elim (λ h. absurd (omega (arith, apart t r u.0 s.0 l u.1.0 s.1.0 h, s.1.1, u.1.1))) (λ h. omega arith) (below_or u.0 s.0)) (below_or s.0 u.0)

  pub Tight-prop : IsProp (Tight n starts cols)
  Tight-prop t u i = record {
    rows = Coded-set coded_ℕ _ _ t.rows u.rows i;
    ends = Coded-set coded_ℕ _ _ t.ends u.ends i;
    rise = λ r l. le_prop (t.rise r l) (u.rise r l) i;
    below = λ k l. le_prop (t.below k l) (u.below k l) i;
    strict = λ r k l a b. le_prop (t.strict r k l a b) (u.strict r k l a b) i;
    diagonal = λ r l. one_slot t r l (t.diagonal r l) (u.diagonal r l) i;
  }

module _ (n : ℕ) (starts cols diagonal : List ℕ) (p : Pattern n starts cols diagonal) where
  abbrev starts_part : List ℕ
  starts_part = take (n + 1) starts

  abbrev cols_part : List ℕ
  cols_part = take (at starts n) cols

  start_is : (r : ℕ) → r ≤ n → at starts_part r ≡ at starts r
  start_is r l = get_or-take (n + 1) starts r 0 (omega arith)

  col_is : (k : ℕ) → k < at starts n → at cols_part k ≡ at cols k
  col_is k l = get_or-take (at starts n) cols k 0 l

  slot_in : (r k : ℕ) → r < n → InRow (at starts) r k → k < at starts n
  slot_in r k l i = omega (arith, i.1, row_end n (at starts) p.formed.rise r l)

  -- a block is stored in the parts exactly if it is in the lists
  pub stored_part : (r c : ℕ) → r < n → Stored (at starts) (at cols) r c → Stored (at (take (n + 1) starts)) (at (take (at starts n) cols)) r c
  stored_part r c l s =
      (s.0, (rw (start_is r (omega arith), start_is (r + 1) (omega arith)) s.1.0, col_is s.0 (slot_in r s.0 l s.1.0) ∙ s.1.1))

  pub stored_whole : (r c : ℕ) → r < n → Stored (at (take (n + 1) starts)) (at (take (at starts n) cols)) r c → Stored (at starts) (at cols) r c
  stored_whole r c l s =
      let i : InRow (at starts) r s.0 = rw (start_is r (omega arith), start_is (r + 1) (omega arith)) at s.1.0 in
      (s.0, (i, sym (col_is s.0 (slot_in r s.0 l i)) ∙ s.1.1))

  pub tight_of : Tight n (take (n + 1) starts) (take (at starts n) cols)
  tight_of =
      let f = p.formed in
      let h = p.held in
      let long : length cols_part ≡ at starts n = length-take-le (at starts n) cols h.columns in
      record {
        rows = length-take-le (n + 1) starts (omega (arith, h.places)) ∙ add-one n;
        ends = start_is n (omega arith) ∙ sym long;
        rise = λ r l. rw (start_is r (omega arith), start_is (suc r) (omega arith)) (rw (add-one r) at (f.rise r l));
        below = λ k l.
            let r = row_of (at starts) k n (omega (arith, f.begins)) (omega (arith, long)) in
            rw (col_is k (omega (arith, long))) (f.below r.0 k r.1.0 r.1.1);
        strict = λ r k l a b.
            let i : InRow (at starts) r (suc k) = (omega (arith, start_is r (omega arith)), rw (add-one r) (omega (arith, start_is (suc r) (omega arith)))) in
            let e : suc k - 1 ≡ k = omega arith in
            rw (col_is k (omega (arith, slot_in r (suc k) l i)), col_is (suc k) (slot_in r (suc k) l i))
            (rw e at (f.strict r (suc k) l i (omega (arith, i.0, start_is r (omega arith)))));
        diagonal = λ r l. stored_part r r l (at diagonal r, f.home r l);
      }
