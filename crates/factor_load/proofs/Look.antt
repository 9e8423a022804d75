-- One store into an envelope: the entry stored, and the others, which are as they were. Assumes nothing.
use Prim.Native.Nat.{ℕ}
use mathlib.Core.Path.{◌≡◌}
use mathlib.Core.List.{List}
use native.Mathlib.Omega.{arith}
use lib.ListN.{length, set}
use lib.Seq.{get_or-set_same, get_or-set_other}
use lib.Ieee.{Float, nan}
use Rattle.plan_fits.specs.Cells.{Skyline, Cell, place, look, held, one_cell}

module _ {m : ℕ} {f s : ℕ → ℕ} (w : Skyline m f s) (v : List Float) (long : length v ≡ s m) {i j : ℕ} (c : Cell m f i j) (x : Float) where
  pub look_same : look f s (set v (place f s i j) x) i j ≡ x
  look_same = get_or-set_same v (place f s i j) x nan (omega (arith, held w c))

  pub look_other : {a b : ℕ} → Cell m f a b → ((a ≡ i) × (b ≡ j) → ⊥) → look f s (set v (place f s i j) x) a b ≡ look f s v a b
  look_other {a} {b} e ne = get_or-set_other v (place f s i j) (place f s a b) x nan (λ q. ne (one_cell w e c q))
