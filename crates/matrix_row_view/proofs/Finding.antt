-- What follows of specs/Finding.antt: its theorems, apart from the definitions.
use Rattle.std.specs.Prelude.{ℕ, ◌-◌, ◌≤◌, ◌<◌, ◌≡◌, List}
use Rattle.std.proofs.Common.{sym, ap, ◌∙◌, ⊎_elim, arith, get_or-take}
use Rattle.law.specs.Limit.{absent}
use Rattle.law.specs.Truth.{below_or, same_or}
use Rattle.matrix_shape.specs.Formed.{InRow}
use Rattle.matrix_shape.specs.Rows.{at, Pattern}
use Rattle.matrix_shape.specs.Index.{Strict, index_of, index_is, index_none}
use Rattle.matrix_shape.specs.Search.{search_of}
use Rattle.matrix_shape.proofs.Search.{search_none, search_tells, search_misses}
use Rattle.matrix_row.specs.declared.inner.Span.{Span}
use Rattle.matrix_row_view.specs.Showing.{In, own_cols, slot_of, Ready}
use Rattle.matrix_row_view.specs.Meaning.{start, end, Lies}
use Rattle.matrix_row_view.proofs.Meaning.{row_lies, lies, nothing}
use Rattle.matrix_row_view.specs.Finding.{Finds, Has}

-- a row offset is a number of 32 bits
module _ (i : In) (r : Ready i) (small : at i.row_offsets i.n ≤ absent) (col : ℕ) where
  abbrev a : ℕ
  a = start i

  abbrev b : ℕ
  b = end i

  abbrev own : ℕ → ℕ
  own = at (own_cols i)

  own_is : (k : ℕ) → k < at i.row_offsets i.n → own k ≡ at i.cols k
  own_is k l = get_or-take (at i.row_offsets i.n) i.cols k 0 l

  -- the search, by the row's bounds as they stand
  here : Lies i → slot_of i col ≡ search_of own a b col
  here h = ap (λ (t : Span). search_of own t.from t.to col) (lies i r h)

  fails : (Lies i → ⊥) → slot_of i col ≡ absent
  fails h = ap (λ (t : Span). search_of own t.from t.to col) (nothing i r h) ∙ sym (search_none own 0 0 col (omega arith))

  tells : Lies i → (slot_of i col ≡ absent → ⊥) → InRow (at i.row_offsets) i.row (slot_of i col) × (at i.cols (slot_of i col) ≡ col)
  tells h g =
      let t = search_tells own a b col (λ e. g (here h ∙ e)) in
      rw (here h) ((t.0, t.1), sym (own_is (search_of own a b col) (omega (arith, t.1, h.1))) ∙ t.2)

  strict_own : Lies i → Strict (at i.cols) a b → Strict own a b
  strict_own h s k g l = rw (own_is (k - 1) (omega (arith, h.1)), own_is k (omega (arith, h.1))) (s k g l)

  misses : Lies i → Strict (at i.cols) a b → slot_of i col ≡ absent → Has i col → ⊥
  misses h s e p =
      search_misses own a b col (strict_own h s) (omega (arith, h.1, small)) (sym (here h) ∙ e) p.0 p.1.0.0 p.1.0.1
      (own_is p.0 (omega (arith, h.1, p.1.0.1)) ∙ p.1.1)

  -- a row lies as it should or doesn't
  told : (slot_of i col ≡ absent → ⊥) → InRow (at i.row_offsets) i.row (slot_of i col) × (at i.cols (slot_of i col) ≡ col)
  told g =
      ⊎_elim (λ u. absurd (g (fails (λ h. omega (arith, h.0)))))
      (λ u. ⊎_elim (λ v. absurd (g (fails (λ h. omega (arith, h.1))))) (λ v. tells (u, v) g) (below_or (at i.row_offsets i.n) b)) (below_or b a)

  same : (diagonal : List ℕ) → Pattern i.n i.row_offsets i.cols diagonal
      → slot_of i col ≡ index_of (at i.row_offsets) (at i.cols) i.row col
  same diagonal p =
      let h = row_lies i diagonal p r.row in
      let s : Strict (at i.cols) a b = λ k g l. p.formed.strict i.row k r.row (omega arith, l) g in
      ⊎_elim (λ e. e ∙ sym (index_none (at i.row_offsets) (at i.cols) i.row col (λ k u v. misses h s e (k, (u, v)))))
      (λ g. let t = told g in
      sym (index_is i.n (at i.row_offsets i.n) (at i.row_offsets) (at i.cols) (at diagonal) p.formed i.row r.row (slot_of i col) col
      t.0 t.1)) (same_or (slot_of i col) absent)

  pub finds : Finds i col
  finds = record {
    found = told;
    none = λ h. ⊎_elim (λ e. e) (λ g. let t = told g in absurd (h (slot_of i col, (t.0, t.1)))) (same_or (slot_of i col) absent);
    no_row = fails;
    missed = misses;
    index = same;
  }
