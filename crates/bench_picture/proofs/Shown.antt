-- What follows of specs/Shown.antt: its theorems, apart from the definitions.
use Prim.Native.Nat.{ℕ, ◌+◌, ◌-◌, ◌*◌, ◌/◌, ◌%◌, ◌≤◌, ◌<◌}
use Rattle.std.specs.Prelude.{◌≡◌, Bool, ◌&&◌, List, ◌⊎◌, leb, eqb}
use Rattle.std.proofs.Math.Path.{refl, sym}
use Rattle.std.proofs.Common.{ap, ◌∙◌, arith}
use Rattle.std.proofs.Math.Bool.{true, false}
use Rattle.std.proofs.Math.Logic.{inl, inr, ⊎_elim}
use Rattle.std.proofs.Math.ListN.{get_or-append}
use borrow.Author.Tests.{leb-true, le-leb, eq-eqb}
use Rattle.law.specs.Bytes.{bytes}
use Rattle.law.specs.Gather.{table}
use Rattle.law.proofs.Gather.{length_table, table_at}
use Rattle.law.specs.Truth.{both, either, or_left, or_right, below_or}
use Rattle.matrix_shape.specs.Formed.{Stored, stored_is, stored_of}
use Rattle.matrix_shape.specs.Rows.{at}
use Rattle.plan_fits.specs.Fits.{PlanRules, Fits}
use Rattle.bench_picture.specs.Pixels.{Scene, before, moved, hatched, after, pixel, digit, width, row_of}
use Rattle.bench_picture.specs.Panels.{left_panel, right_panel}
use Rattle.bench_picture.specs.Shown.{Black, right}

module _ (s : Scene) (i k : ℕ) (h : k < width s.n) where
  pixel_at : at (row_of s i) k ≡ digit (pixel s i k)
  unfolding row_of
  pixel_at =
      let f : ℕ → ℕ = λ k. digit (pixel s i k) in
      get_or-append (table f (width s.n)) (bytes "\n") 0 k (omega (arith, length_table f (width s.n))) ∙ table_at f (width s.n) k h

  pub black_of : pixel s i k ≡ true → Black s i k
  unfolding digit
  black_of e = pixel_at ∙ rw e

  pub black_is : Black s i k → pixel s i k ≡ true
  unfolding digit
  black_is e = go (pixel s i k) (sym pixel_at ∙ e)
    where
      go : (b : Bool) → digit b ≡ 49 → b ≡ true
      go true q = refl
      go false q = absurd (omega arith)

-- ---- the left panel

-- a block's entries
half : (r a : ℕ) → a < 2 → (2 * r + a) / 2 ≡ r
half r a h = omega arith

module _ (s : Scene) (r c a b : ℕ) (l : r < s.n) (m : c < s.n) (u : a < 2) (v : b < 2) where
  pub left_shows : Stored (at s.starts) (at s.cols) r c → Black s (2 * r + a) (2 * c + b)
  unfolding before
  left_shows w =
      black_of s (2 * r + a) (2 * c + b) (omega arith)
      (left_panel s (2 * r + a) (2 * c + b) (omega arith) ∙ rw (half r a u, half c b v) (stored_of (at s.starts) (at s.cols) r c w))

  pub left_only : Black s (2 * r + a) (2 * c + b) → Stored (at s.starts) (at s.cols) r c
  unfolding before
  left_only e =
      let t = sym (left_panel s (2 * r + a) (2 * c + b) (omega arith)) ∙ black_is s (2 * r + a) (2 * c + b) (omega arith) e in
      stored_is (at s.starts) (at s.cols) r c (rw (half r a u, half c b v) at t)

-- ---- the right panel, which starts behind the white column

hatch_is : (f i j : ℕ) → hatched f i j ≡ true → (j ≤ i) × (f ≤ j)
unfolding hatched
hatch_is f i j h =
    let t = both (leb j i) (leb f j) (both (leb j i && leb f j) (eqb ((i + j) % 2) 0) h).0 in
    (leb-true j i t.0, leb-true f j t.1)

module _ (s : Scene) (i j : ℕ) (m : j < 2 * s.n) where
  right_is : pixel s i (right s j) ≡ after s i j
  right_is =
      let e : right s j - (2 * s.n + 1) ≡ j = omega arith in
      right_panel s i (right s j) (omega arith) ∙ ap (after s i) e

  right_of : moved s i j ≡ true → Black s i (right s j)
  unfolding after
  right_of t = black_of s i (right s j) (omega arith) (right_is ∙ or_left _ _ t)

  -- EVERY SECOND PLACE OF THE ENVELOPE IS BLACK
  pub hatch_shows : j ≤ i → at s.first i ≤ j → (i + j) % 2 ≡ 0 → Black s i (right s j)
  unfolding after hatched
  hatch_shows h g e = black_of s i (right s j) (omega arith)
      (right_is ∙ or_right (moved s i j) _ (rw (le-leb j i h, le-leb (at s.first i) j g, eq-eqb ((i + j) % 2) 0 e)))

  -- a black pixel is a stored block's or a place of the envelope
  right_cases : Black s i (right s j) → Stored (at s.starts) (at s.cols) (at s.order (i / 2)) (at s.order (j / 2))
      ⊎ ((j ≤ i) × (at s.first i ≤ j))
  unfolding after moved
  right_cases e =
      ⊎_elim (λ t. inl (stored_is (at s.starts) (at s.cols) (at s.order (i / 2)) (at s.order (j / 2)) t))
      (λ t. inr (hatch_is (at s.first i) i j t))
      (either (moved s i j) (hatched (at s.first i) i j) (sym right_is ∙ black_is s i (right s j) (omega arith) e))

  -- ABOVE THE DIAGONAL ONLY STORED BLOCKS ARE BLACK
  pub above_only : Black s i (right s j) → i < j → Stored (at s.starts) (at s.cols) (at s.order (i / 2)) (at s.order (j / 2))
  above_only e h = ⊎_elim (λ t. t) (λ t. absurd (omega (arith, t.0))) (right_cases e)

-- a place's two rows
evens : (i : ℕ) → (i ≡ 2 * (i / 2)) ⊎ (i ≡ 2 * (i / 2) + 1)
evens i = ⊎_elim (λ h. inl (omega arith)) (λ h. inr (omega arith)) (below_or i (2 * (i / 2) + 1))

-- for a plan that fits
module _ (s : Scene) (inverse rows : List ℕ) (w : Fits s.n (at s.starts) (at s.cols) (at s.order) (at inverse) (at s.first) (at rows)) where
  -- A STORED BLOCK IS BLACK AT THE PLACES OF ITS TWO PARTICLES
  pub right_shows : (r c a b : ℕ) → r < s.n → c < s.n → a < 2 → b < 2 → Stored (at s.starts) (at s.cols) r c
      → Black s (2 * at inverse r + a) (right s (2 * at inverse c + b))
  unfolding moved
  right_shows r c a b l m u v h =
      right_of s (2 * at inverse r + a) (2 * at inverse c + b) (omega (arith, w.planned.position c m))
      (rw (half (at inverse r) a u, half (at inverse c) b v, w.planned.forth r l, w.planned.forth c m) (stored_of (at s.starts) (at s.cols) r c h))

  -- both rows of a place start at the same column
  first_of : (i : ℕ) → i < 2 * s.n → at s.first i ≡ at s.first (2 * (i / 2))
  first_of i l = ⊎_elim (λ e. ap (at s.first) e) (λ e. ap (at s.first) e ∙ sym (w.planned.same (i / 2) (omega arith))) (evens i)

  -- FROM THE DIAGONAL DOWN NOTHING IS BLACK OUTSIDE THE ENVELOPE
  pub below_inside : (i j : ℕ) → i < 2 * s.n → j ≤ i → Black s i (right s j) → at s.first i ≤ j
  below_inside i j l h e = ⊎_elim (λ t. stands (w.inside (at s.order (i / 2)) (at s.order (j / 2)) (o.particle (i / 2) (omega arith)) t))
      (λ t. t.1) (right_cases s i j (omega arith) e)
    where
      o : PlanRules s.n (at s.order) (at inverse) (at s.first) (at rows)
      o = w.planned

      stands : (at inverse (at s.order (j / 2)) ≤ at inverse (at s.order (i / 2)) → at s.first (2 * at inverse (at s.order (i / 2))) ≤ 2 *
          at inverse (at s.order (j / 2))) → at s.first i ≤ j
      stands q =
          let in_row : at s.first (2 * (i / 2)) ≤ 2 * (j / 2) = (rw (o.back (i / 2) (omega arith), o.back (j / 2) (omega arith)) at q) (omega arith) in
          omega (arith, first_of i l)
