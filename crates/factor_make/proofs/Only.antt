-- `Cholesky` ADMITS ONE OUTCOME: two factors of one matrix that both are as specs/Entry.antt
-- says have gone alike and have the same entries in the envelope. Assumes nothing.
use Prim.Native.Nat.{ℕ, ◌≤◌, ◌<◌, zero-le}
use mathlib.Core.Path.{◌≡◌, refl, ap, sym, ◌∙◌}
use mathlib.Core.Bool.{true≢false}
use mathlib.Core.Logic.{⊎_elim}
use native.Mathlib.Omega.{arith}
use native.Mathlib.Nat.{le_refl}
use lib.Ieee.{Float, lt}
use Rattle.law.proofs.Loop.{from}
use Rattle.law.specs.Truth.{below_or}
use Rattle.plane.specs.Plane.{zero32}
use Rattle.root.specs.Sqrt.{sqrt_of}
use Rattle.plan_fits.specs.Cells.{Cell}
use Rattle.factor_load.specs.Permuted.{Matrix}
use Rattle.std.specs.Prelude.{Ok, Err}
use Rattle.factor_make.specs.Factored.{Factored, failed}
use Rattle.factor_make.specs.Entry.{entry, pivot, Finished, Ended, Cholesky}
use Rattle.factor_make.proofs.Meaning.{entry_same, pivot_same}

module _ (m : ℕ) (f : ℕ → ℕ) (low : (i : ℕ) → i < m → f i ≤ i) (a : Matrix) where
  -- the first k rows of two factors are the same
  abbrev Alike : ℕ → Matrix → Matrix → Type 0
  Alike k l t = (i j : ℕ) → i < k → f i ≤ j → j ≤ i → l i j ≡ t i j

  -- row i left of its diagonal
  abbrev Lefts : ℕ → Matrix → Type 0
  Lefts i l = (j : ℕ) → f i ≤ j → j < i → l i j ≡ entry f a l i j

  module _ (l t : Matrix) where
    row_alike : (i : ℕ) → i < m → Alike i l t → Lefts i l → Lefts i t → (j : ℕ) → f i ≤ j → j < i → l i j ≡ t i j
    row_alike i h up x y j g u =
        from (λ k. k ≤ i → (j : ℕ) → f i ≤ j → j < k → l i j ≡ t i j) 0 (λ _ j p q. absurd (omega arith))
        (λ k z ih q j p v. ⊎_elim (λ b. ih (omega arith) j p b)
        (λ b.
        let e : j ≡ k = omega arith in
        x j p (omega arith) ∙ entry_same f a l t i j (low j (omega arith)) (λ c r n. ih (omega arith) c r (omega arith))
        (λ c r n. up j c (omega arith) r n) ∙ sym (y j p (omega arith)))
        (below_or j k)) i zero-le (le_refl i) j g u

    rows_alike : (k : ℕ) → k ≤ m → Finished k f a l → Finished k f a t → Alike k l t
    rows_alike k h x y =
        from (λ r. r ≤ k → Alike r l t) 0 (λ _ i j p q u. absurd (omega arith))
        (λ r z ih v i j p q u. ⊎_elim (λ b. ih (omega arith) i j b q u)
        (λ b.
        let e : i ≡ r = omega arith in
        let row = row_alike i (omega arith) (λ c d n. ih (omega arith) c d (omega arith)) (λ c n g. x.left i c (omega arith) n g)
        (λ c n g. y.left i c (omega arith) n g) in
        ⊎_elim (λ n. row j q n)
        (λ n. let d : j ≡ i = omega arith in rw d (x.diagonal i (omega arith) ∙ ap sqrt_of (pivot_same f a l t i row)
        ∙ sym (y.diagonal i (omega arith)))) (below_or j i))
        (below_or i r)) k zero-le (le_refl k)

    -- one has finished a row where the other has ended
    clash : (k r : ℕ) (d : Float) → r < k → k ≤ m → Finished k f a l → Ended m f a t r d → ⊥
    clash k r d h g x y =
        let front : Finished r f a l = record {
          left = λ i j p q u. x.left i j (omega arith) q u;
          above = λ i p. x.above i (omega arith);
          diagonal
              = λ i p. x.diagonal i (omega arith);
        } in
        let row = row_alike r (omega arith) (rows_alike r (omega arith) front y.earlier) (λ j p q. x.left r j h p q) y.left in
        let same : pivot f a l r ≡ d = pivot_same f a l t r row ∙ sym y.reached in
        true≢false (sym (x.above r h) ∙ ap (lt zero32) same ∙ y.fails)

    -- both have ended at one row
    ended : (r : ℕ) (d e : Float) → Ended m f a l r d → Ended m f a t r e → (failed r d ≡ failed r e) × ((i j : ℕ) → Cell m f i j → l i j ≡ t i j)
    ended r d e x y =
        let rows = rows_alike r (omega (arith, x.row)) x.earlier y.earlier in
        let row = row_alike r x.row rows x.left y.left in (
          ap (failed r) (x.reached ∙ pivot_same f a l t r row ∙ sym y.reached),
          λ i j c. ⊎_elim (λ b. rows i j b c.left c.upto)
              (λ b. ⊎_elim (λ u. x.rest i j u c.row c.left c.upto ∙ sym (y.rest i j u c.row c.left c.upto))
              (λ u.
              let s : i ≡ r = omega arith in
              ⊎_elim (λ n. let p = c.left in rw s (row j (rw s at p) (omega arith)))
              (λ n. let q : j ≡ i = omega (arith, c.upto) in rw (q, s) (x.diagonal ∙ sym y.diagonal)) (below_or j i)) (below_or r i)) (below_or i r),
        )

  pub only : (l t : Matrix) (h g : Factored) → Cholesky m f a l h → Cholesky m f a t g → (h ≡ g) × ((i j : ℕ) → Cell m f i j → l i j ≡ t i j)
  only l t (Ok _) (Ok _) x y = (refl, λ i j c. rows_alike l t m (le_refl m) x y i j c.row c.left c.upto)
  only l t (Ok _) (Err e) x y = absurd (clash l t m e.row e.pivot y.row (le_refl m) x y)
  only l t (Err e) (Ok _) x y = absurd (clash t l m e.row e.pivot x.row (le_refl m) y x)
  only l t (Err e) (Err g) x y =
      let r = e.row in
      let q = g.row in
      ⊎_elim (λ b. absurd (clash t l q r e.pivot b (omega (arith, y.row)) y.earlier x))
      (λ b. ⊎_elim (λ u. absurd (clash l t r q g.pivot u (omega (arith, x.row)) x.earlier y))
      (λ u.
      let s : q ≡ r = omega arith in
      let w = ended l t r e.pivot g.pivot x (rw s at y) in
      (ap Err (w.0 ∙ rw s refl), w.1)) (below_or q r)) (below_or r q)
