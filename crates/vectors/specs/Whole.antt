-- WHOLE VECTORS, one part to a particle, in lists of 2 * n floats: their sum of products, their difference, and a loop that writes one.
use Rattle.std.specs.Prelude.{ℕ, ◌+◌, ◌*◌, ◌≤◌, ◌<◌, List, ◌≡◌, refl, length, get_or, Float}
use Rattle.std.proofs.Common.{zero-le, ◌∙◌, arith, add-zero}
use Rattle.std.specs.Float.{nan}
use Rattle.law.specs.Loop.{over}
use Rattle.law.specs.Store.{written}
use Rattle.law.specs.Mix.{mix}
use Rattle.law.proofs.Mix.{mix_none, turn_reads, turn_stores}
use Rattle.plane.specs.Plane.{Vector, ◌⊕◌, zero32, sub_of, dot_of}
use Rattle.plane.specs.Lent.{vector_at}

-- the sum of the parts' products, from +0.0, left to right
abbrev pub dot_step : List Float → List Float → ℕ → Float → Float
dot_step u v k sum = sum ⊕ dot_of (vector_at u k) (vector_at v k)

unfoldable pub dot_all : ℕ → List Float → List Float → Float
dot_all n u v = over (dot_step u v) 0 n zero32

-- b - r
abbrev pub lack_at : List Float → List Float → ℕ → Vector
lack_at b r k = sub_of (vector_at b k) (vector_at r k)

-- ---- what a loop leaves that hands every part to a function: where each answer can only be f's part, x is l with the first n parts f's

abbrev pub Each : (ℕ → Vector → Vector → Type 0) → ℕ → List Float → List Float → Type 0
Each Answers n l x = (f : ℕ → Vector) → ((j : ℕ) → length (f j) ≡ 2) → ((k : ℕ) (v : Vector) → k < n → Answers k (vector_at l k) v → v ≡ f k) → x ≡ mix 2 n f l

-- ---- A LOOP THAT WRITES x PART BY PART, from l on: before turn k the first k parts are written and the rest is as it was. One law serves every such loop

abbrev pub Front : (ℕ → Vector) → ℕ → ℕ → List Float → List Float → Type 0
Front f n k l x = (k ≤ n) × (x ≡ mix 2 k f l) × (length x ≡ length l)

module _ (f : ℕ → Vector) (long : (j : ℕ) → length (f j) ≡ 2) where
  pub front_none : (n : ℕ) (l : List Float) → Front f n 0 l l
  front_none n l = (zero-le, mix_none 2 f long l, refl)

  -- the part that a turn reads is as it was
  part_read : (k : ℕ) (l x : List Float) → x ≡ mix 2 k f l → vector_at x k ≡ vector_at l k
  part_read k l x e =
      let first : get_or x (2 * k) nan ≡ get_or l (2 * k) nan = rw add-zero at (turn_reads 2 f long k 0 l x nan e) in
      rw (first, turn_reads 2 f long k 1 l x nan e)

  -- a turn stores v, worked out of what it reads
  pub front_turn : (n k : ℕ) (l x z v : List Float) → Front f n k l x → k < n → 2 * n ≤ length l → z ≡ written x (2 * k) v → length z ≡ length x
      → (vector_at x k ≡ vector_at l k → v ≡ f k) → Front f n (k + 1) l z
  front_turn n k l x z v h less room p q r =
      (omega arith, turn_stores 2 f long k l x z v h.1 p (r (part_read k l x h.1)) (omega arith), q ∙ h.2)

  pub front_done : (n k : ℕ) (l x : List Float) → Front f n k l x → n ≤ k → x ≡ mix 2 n f l
  front_done n k l x h done =
      let e : k ≡ n = omega (arith, h.0) in
      rw e at h.1
