-- What follows of specs/Along.antt: its theorems, apart from the definitions.
use Prim.Native.Nat.{ℕ, zero, suc, ◌≤◌}
use Rattle.std.specs.Prelude.{◌≡◌, List, length, get_or, drop}
use Rattle.std.proofs.Math.Path.{refl}
use Rattle.std.proofs.Common.{arith, drop-cons}
use Rattle.std.proofs.Math.Nat.{sub-zero, zero-add}
use Rattle.std.proofs.Math.Seq.{drop-length}
use Rattle.law.specs.Loop.{fold, over}
use Rattle.law.specs.Along.{along}

module _ {A S : Type 0} (f : A → S → S) (d : A) (l : List A) (z : S) where
  rest : (k : ℕ) → k ≤ length l → along f (fold (λ i. f (get_or l i d)) 0 k z) (drop k l) ≡ along f z l
  unfolding along fold
  rest zero h = refl
  rest (suc k) h =
      let ih = rest k (omega arith) in
      rw zero-add (rw (drop-cons l k d (omega arith)) at ih)

  pub over_list : over (λ i. f (get_or l i d)) 0 (length l) z ≡ along f z l
  unfolding over along
  over_list = rw sub-zero (rw (drop-length l) at (rest (length l) (omega arith)))
