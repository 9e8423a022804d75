-- What follows of specs/Store.antt: its theorems, apart from the definitions.
use Prim.Native.Nat.{ℕ, ◌+◌}
use Rattle.std.specs.Prelude.{◌≡◌, set}
use Rattle.std.proofs.Math.Path.{ap}
use Rattle.std.proofs.Common.{◌∙◌}
use mathlib.Core.List.{List, [], ◌∷◌}
use native.Mathlib.Omega.{arith}
use Rattle.std.proofs.Math.Nat.{zero-add}
use Rattle.std.proofs.Math.ListN.{length}
use Rattle.law.specs.Gather.{gather, up_to, table}
use Rattle.law.proofs.Gather.{gather_none, gather_more, up_to_table}
use Rattle.law.specs.Store.{written, written_append}

module _ {A : Type 0} where
  -- before the first part
  pub write_none : (g : ℕ → List A) (l : List A) (i a : ℕ) → l ≡ written l i (gather g a a)
  unfolding written
  write_none g l i a = ap (λ (t : List A). written l i t) (gather_none g a)

  -- the next part, behind those before it
  pub write_more : (g : ℕ → List A) (l : List A) (r : ℕ) → written (written l 0 (gather g 0 r)) (up_to g r) (g r) ≡ written l 0 (gather g 0 (r + 1))
  unfolding up_to
  write_more g l r =
      let z : 0 + length (gather g 0 r) ≡ length (gather g 0 r) = zero-add _ in
      rw z at (written_append l 0 (gather g 0 r) (g r)) ∙ ap (λ (t : List A). written l 0 t) (gather_more g 0 r (omega arith))

-- the next entry of a table
pub table_more : (f : ℕ → ℕ) (l : List ℕ) (r : ℕ) → set (written l 0 (table f r)) r (f r) ≡ written l 0 (table f (r + 1))
unfolding written
table_more f l r = let e : up_to (λ i. f i ∷ []) r ≡ r = up_to_table f r in rw e at (write_more (λ i. f i ∷ []) l r)

-- the same as a loop's turn has it: x is the buffer at the loop's head, v the entry
pub table_turn : (f : ℕ → ℕ) (l x : List ℕ) (r v : ℕ) → x ≡ written l 0 (table f r) → v ≡ f r → set x r v ≡ written l 0 (table f (r + 1))
table_turn f l x r v e q = ap (λ (t : List ℕ). set t r v) e ∙ ap (λ (k : ℕ). set (written l 0 (table f r)) r k) q ∙ table_more f l r
