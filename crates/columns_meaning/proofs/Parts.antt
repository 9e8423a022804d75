-- Lists of floats in parts: what stands where, in a buffer written from its front and in a list behind which more stands. Assumes nothing.
use Prim.Native.Nat.{ℕ, zero, suc, ◌+◌, ◌*◌, ◌≤◌, ◌<◌}
use native.Mathlib.Omega.{arith}
use native.Mathlib.Nat.{add-zero}
use mathlib.Core.Path.{◌≡◌, refl, ap, ◌∙◌}
use mathlib.Core.List.{List, [], ◌∷◌, ◌++◌}
use lib.ListN.{length, get_or, set, drop, length-set, get_or-append}
use lib.Seq.{set-append_left}
use lib.Ieee.{Float, nan}
use Rattle.law.specs.Gather.{gather}
use Rattle.law.proofs.Gather.{up_to_even, gather_at}
use Rattle.law.specs.Store.{written}
use Rattle.law.specs.Mix.{mix}
use Rattle.law.proofs.Mix.{length_parts}
use Rattle.plane.specs.Plane.{Vector, pair, x, y}
use Rattle.plane.specs.Lent.{vector_at}

pub drop_all : (n : ℕ) (l : List Float) → length l ≤ n → drop n l ≡ []
drop_all zero [] h = refl
drop_all (suc n) [] h = refl
drop_all zero (v ∷ l) h = absurd (omega arith)
drop_all (suc n) (v ∷ l) h = drop_all n l (omega arith)

-- a store into the front
pub written_left : (l r : List Float) (i : ℕ) (vs : List Float) → i + length vs ≤ length l → written (l ++ r) i vs ≡ written l i vs ++ r
unfolding written
written_left l r i [] h = refl
written_left l r i (v ∷ vs) h =
    ap (λ (t : List Float). written t (suc i) vs) (set-append_left l r i v (omega arith))
    ∙ written_left (set l i v) r (suc i) vs (omega (arith, length-set l i v))

pub vector_left : (l r : List Float) (q : ℕ) → 2 * q + 2 ≤ length l → vector_at (l ++ r) q ≡ vector_at l q
vector_left l r q h = rw (get_or-append l r nan (2 * q) (omega arith), get_or-append l r nan (2 * q + 1) (omega arith))

module _ (f : ℕ → Vector) (long : (j : ℕ) → length (f j) ≡ 2) (n : ℕ) where
  part_at : (q j : ℕ) → q < n → j < 2 → get_or (gather f 0 n) (2 * q + j) nan ≡ get_or (f q) j nan
  part_at q j h g =
      let e = up_to_even f 2 long q in
      rw e at (gather_at f n q j nan h (omega (arith, long q)))

  -- the vector of part q
  gather_vector : (q : ℕ) → q < n → vector_at (gather f 0 n) q ≡ pair (x (f q)) (y (f q))
  gather_vector q h =
      let first : get_or (gather f 0 n) (2 * q) nan ≡ get_or (f q) 0 nan = rw add-zero at (part_at q 0 h (omega arith)) in
      rw (first, part_at q 1 h (omega arith))

  pub mix_vector : (l : List Float) (q : ℕ) → q < n → vector_at (mix 2 n f l) q ≡ pair (x (f q)) (y (f q))
  mix_vector l q h =
      vector_left (gather f 0 n) (drop (2 * n) l) q (omega (arith, length_parts 2 f long n)) ∙ gather_vector q h
