-- What follows of specs/Meaning.antt: its theorems, apart from the definitions.
use Rattle.std.specs.Prelude.{ℕ, ◌+◌, ◌-◌, ◌<◌, ◌≡◌, Bool, false, ◌&&◌, cond, List, ◌++◌, leb, length, take, Ok}
use Rattle.std.proofs.Math.Path.{refl}
use Rattle.std.proofs.Common.{sym, ap, ◌∙◌, arith, length-take-le, get_or-take, leb-true, le-leb, lt-ltb, le-ltb}
use Rattle.std.proofs.Math.Bool.{true}
use Rattle.std.proofs.Math.ListN.{length-append, get_or-append}
use Rattle.std.proofs.lemmas.List.{take-append-le}
use Rattle.law.specs.Limit.{particles}
use Rattle.law.specs.Truth.{both, and_true, untrue}
use Rattle.law.specs.Store.{part, length_part, part_at}
use Rattle.law.specs.Refusal.{verdict}
use Rattle.law.proofs.Room.{enough_of}
use Rattle.law.specs.Promise.{Door, outcome}
use Rattle.law.proofs.Promise.{accepts, zero_from}
use Rattle.matrix_shape.specs.Rows.{at, Pattern, row_end}
use Rattle.matrix_row.specs.declared.inner.Span.{Span}
use Rattle.matrix_row.specs.Row.{none, span_of, row_cols}
use Rattle.matrix_row_view.specs.Showing.{In, given, own_starts, own_cols, refusals, rows_room, Ready}
use Rattle.matrix_row_view.proofs.Showing.{ready}
use Rattle.matrix_row_view.specs.Showing.{span_door, column_door, slot_door}
use Rattle.matrix_row_view.specs.Meaning.{Lies, Shows, end, i, start}

-- over a well formed pattern every row lies so
pub row_lies : (i : In) (diagonal : List ℕ) → Pattern i.n i.row_offsets i.cols diagonal → i.row < i.n → Lies i
row_lies i diagonal p l = (p.formed.rise i.row l, row_end i.n (at i.row_offsets) p.formed.rise i.row l)

module _ (i : In) (r : Ready i) where
  abbrev a : ℕ
  a = start i

  abbrev b : ℕ
  b = end i

  abbrev m : ℕ
  m = at i.row_offsets i.n

  own_long : length (own_cols i) ≡ m
  own_long = length-take-le m i.cols r.columns

  -- the row's slots, by one test of its bounds
  span_is : span_of (own_starts i) (length (own_cols i)) i.row ≡ cond (leb a b && leb b m) (record { from = a; to = b }) none
  span_is =
      let long = length-take-le (i.n + 1) i.row_offsets (omega (arith, r.places)) in
      rw (
        long,
        own_long,
        lt-ltb (i.row + 1) (i.n + 1) (omega (arith, r.row)),
        get_or-take (i.n + 1) i.row_offsets i.row 0 (omega (arith, r.row)),
        get_or-take (i.n + 1) i.row_offsets (i.row + 1) 0 (omega (arith, r.row)),
      )

  -- what is shown, by the test's answer
  shown : (t : Bool) → (leb a b && leb b m) ≡ t → span_of (own_starts i) (length (own_cols i)) i.row ≡ cond t (record { from = a; to = b }) none
  shown t e = rw e at span_is

  pub lies : Lies i → span_of (own_starts i) (length (own_cols i)) i.row ≡ record { from = a; to = b }
  lies h = shown true (and_true _ _ (le-leb a b h.0) (le-leb b m h.1))

  own_row : Lies i → row_cols (own_starts i) (own_cols i) i.row ≡ part a b (own_cols i)
  own_row h = ap (λ (t : Span). part t.from t.to (own_cols i)) (lies h)

  row_long : Lies i → length (row_cols (own_starts i) (own_cols i) i.row) ≡ b - a
  row_long h = ap length (own_row h) ∙ length_part a b (own_cols i) h.0 (omega (arith, own_long, h.1))

  pub nothing : (Lies i → ⊥) → span_of (own_starts i) (length (own_cols i)) i.row ≡ none
  nothing h = shown false (untrue _ (λ e. let t = both _ _ e in h (leb-true a b t.0, leb-true b m t.1)))

  no_row : (Lies i → ⊥) → length (row_cols (own_starts i) (own_cols i) i.row) ≡ 0
  no_row h = ap (λ (t : Span). length (part t.from t.to (own_cols i))) (nothing h)

  pub shows : Shows i
  shows = record {
    slots = λ h. rw (row_long h, ap (λ (t : Span). t.from) (lies h));
    column = λ h j l.
        rw (lt-ltb j (length (row_cols (own_starts i) (own_cols i) i.row)) (omega (arith, row_long h)))
        (ap (λ (t : List ℕ). at t j) (own_row h) ∙ part_at a b (own_cols i) j 0 l ∙ get_or-take m i.cols (a + j) 0 (omega (arith, h.1)));
    past = λ h j l. rw (le-ltb j (length (row_cols (own_starts i) (own_cols i) i.row)) (omega (arith, row_long h)));
    no_slots = λ h. rw (no_row h, ap (λ (t : Span). t.from) (nothing h));
    no_column = λ h j. rw (le-ltb j (length (row_cols (own_starts i) (own_cols i) i.row)) (omega (arith, no_row h)));
  }

-- A LONGER LIST'S REST IS NEVER SHOWN: whatever stands behind the lists of an accepted call, its outcome is the same
module _ (n : ℕ) (starts cols : List ℕ) (row : ℕ) (more rest : List ℕ) (accepted : verdict (refusals (given n starts cols row)) ≡ Ok tt) where
  abbrev longer : In
  longer = given n (starts ++ more) (cols ++ rest) row

  abbrev is_ready : Ready (i n starts cols row more rest accepted)
  is_ready = ready (i n starts cols row more rest accepted) (sym accepted)

  last_same : at (starts ++ more) n ≡ at starts n
  last_same = get_or-append starts more 0 n is_ready.places

  accepted_too : verdict (refusals longer) ≡ Ok tt
  unfolding refusals rows_room
  accepted_too =
      let room = enough_of true (rows_room n (starts ++ more) (cols ++ rest)) refl
      (omega (arith, length-append starts more, is_ready.places), (omega (arith, last_same, length-append cols rest, is_ready.columns), tt)) in
      zero_from span_door longer (le-leb n particles is_ready.few, (room, (lt-ltb row n is_ready.row, tt)))

  own_starts_lem : own_starts longer ≡ own_starts (i n starts cols row more rest accepted)
  own_starts_lem = take-append-le (n + 1) starts more (omega (arith, is_ready.places))

  own_cols_lem : own_cols longer ≡ own_cols (i n starts cols row more rest accepted)
  own_cols_lem = ap (λ (k : ℕ). take k (cols ++ rest)) last_same ∙ take-append-le (at starts n) cols rest is_ready.columns

  same_work : {A : Type 0} (d : Door In A) → d.work longer ≡ d.work (i n starts cols row more rest accepted) → verdict (d.tests longer) ≡ Ok tt → verdict (d.tests (i n starts cols row more rest accepted)) ≡ Ok tt
      → outcome d longer ≡ outcome d (i n starts cols row more rest accepted)
  same_work d e g h = sym (accepts d longer (sym g) (d.work longer) refl) ∙ e ∙ accepts d (i n starts cols row more rest accepted) (sym h) (d.work (i n starts cols row more rest accepted)) refl

  pub rest_unseen : (outcome span_door longer ≡ outcome span_door (i n starts cols row more rest accepted)) × ((j : ℕ) → outcome (column_door j) longer ≡ outcome (column_door j) (i n starts cols row more rest accepted))
      × ((col : ℕ) → outcome (slot_door col) longer ≡ outcome (slot_door col) (i n starts cols row more rest accepted))
  rest_unseen = (
    same_work span_door (rw (own_starts_lem, own_cols_lem)) accepted_too accepted,
    λ j. same_work (column_door j) (rw (own_starts_lem, own_cols_lem)) accepted_too accepted,
    λ col. same_work (slot_door col) (rw (own_starts_lem, own_cols_lem)) accepted_too accepted,
  )
