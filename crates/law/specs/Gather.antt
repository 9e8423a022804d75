-- LISTS JOINED END TO END: g a, then g (a + 1), up to and without g b. Rows, columns, tables and vectors are all joined so.
use Rattle.std.specs.Prelude.{ℕ}
use mathlib.Core.List.{List, [], ◌∷◌, ◌++◌}
use Rattle.std.proofs.Math.ListN.{length}
use Rattle.law.specs.Loop.{over}

unfoldable pub gather : {A : Type 0} → (ℕ → List A) → ℕ → ℕ → List A
gather g a b = over (λ i l. l ++ g i) a b []

module _ {A : Type 0} (g : ℕ → List A) where
  -- how long the first r are together
  unfoldable pub up_to : ℕ → ℕ
  up_to r = length (gather g 0 r)

-- ---- one number to a part: f 0, f 1, up to and without f n

abbrev pub table : (ℕ → ℕ) → ℕ → List ℕ
table f n = gather (λ i. f i ∷ []) 0 n
