-- What follows of specs/Row.antt: its theorems, apart from the definitions.
use Rattle.std.specs.Prelude.{ℕ, ◌+◌, ◌-◌, ◌≤◌, ◌<◌, ◌≡◌, refl, Bool, true, false, cond, List, ltb, length}
use Rattle.std.proofs.Common.{sym, ap, ◌∙◌, arith, leb-true, le-leb, lt-ltb}
use Rattle.law.specs.Truth.{both}
use Rattle.law.specs.Store.{part, length_part, part_at}
use Rattle.matrix_shape.specs.Rows.{at, Pattern, row_end}
use Rattle.matrix_row.specs.declared.inner.Span.{Span}
use Rattle.matrix_row.specs.Row.{Shown, none, row_cols, span_of}

-- a row's slots are in order and within the columns
in_order : (m : ℕ) (b : Bool) (p : Span) → (b ≡ true → (p.from ≤ p.to) × (p.to ≤ m)) → ((cond b p none).from ≤ (cond b p none).to) × ((cond b p none).to ≤ m)
in_order m true p h = h refl
in_order m false p h = (omega arith, omega arith)

pub span_ok : (starts : List ℕ) (m r : ℕ) (p : Span) → p ≡ span_of starts m r → (p.from ≤ p.to) × (p.to ≤ m)
span_ok starts m r p e =
    rw e
    (in_order m (ltb (r + 1) (length starts)) _
    (λ _. in_order m _ (record { from = at starts r; to = at starts (r + 1) })
    (λ t. let h = both _ _ t in (leb-true _ _ h.0, leb-true _ _ h.1))))

-- and its part of the column list is as long
pub span_long : (starts cols : List ℕ) (r : ℕ) (p : Span) → p ≡ span_of starts (length cols) r → p.to - p.from ≡ length (row_cols starts cols r)
span_long starts cols r p e =
    let ok = span_ok starts (length cols) r p e in
    sym (length_part p.from p.to cols ok.0 ok.1) ∙ ap (λ (q : Span). length (part q.from q.to cols)) e

pub row_shown : (n : ℕ) (starts cols diagonal : List ℕ) → Pattern n starts cols diagonal → (r : ℕ) → r < n → Shown starts cols r
row_shown n starts cols diagonal p r l =
    let a = at starts r in
    let b = at starts (r + 1) in
    let rise : a ≤ b = p.formed.rise r l in
    let within : b ≤ length cols = omega (arith, row_end n (at starts) p.formed.rise r l, p.held.columns) in
    let here : r + 1 < length starts = omega (arith, p.held.places) in
    let is : span_of starts (length cols) r ≡ record { from = a; to = b } = rw (lt-ltb _ _ here, le-leb a b rise, le-leb b (length cols) within) in
    let first = ap (λ (t : Span). t.from) is in
    let own : row_cols starts cols r ≡ part a b cols = ap (λ (t : Span). part t.from t.to cols) is in
    let long = ap length own ∙ length_part a b cols rise within in
    let inside : (j : ℕ) → j < b - a → ltb j (length (row_cols starts cols r)) ≡ true = λ j h. lt-ltb j (length (row_cols starts cols r))
    (omega (arith, long)) in
    record {
      first = first;
      long = long;
      column = λ j h. rw (inside j h) (ap (λ (t : List ℕ). at t j) own ∙ part_at a b cols j 0 h);
      slot = λ j h f. rw (inside j h, first, le-leb a (18446744073709551615 - j) (omega arith));
    }
