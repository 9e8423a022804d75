-- There are such sequences: the method's turns, one after the other. Assumes nothing.
use Prim.Native.Nat.{ℕ, zero, suc}
use native.Mathlib.Numerals.{add-one}
use mathlib.Core.Path.{refl}
use mathlib.Core.List.{List}
use lib.Ieee.{Float}
use Rattle.plane.specs.Plane.{◌⊘◌}
use Rattle.vectors.specs.Whole.{dot_all}
use Rattle.gradient_definition.specs.Vectors.{Map, advanced, retreated, redirected, lacking}
use Rattle.gradient_textbook.specs.Method.{Method}

record Point : Type 0 where
  x : List Float
  r : List Float
  d : List Float

module _ (n : ℕ) (A P : Map) (b start : List Float) where
  abbrev alpha_of : Point → Float
  alpha_of p = dot_all n p.r (P p.r) ⊘ dot_all n p.d (A p.d)

  abbrev beta_of : List Float → List Float → Float
  beta_of r next = dot_all n next (P next) ⊘ dot_all n r (P r)

  point : ℕ → Point
  point zero = let r = lacking n b (A start) in record { x = start; r = r; d = P r }
  point (suc k) =
      let p = point k in
      let next = retreated n (alpha_of p) (A p.d) p.r in
      record { x = advanced n (alpha_of p) p.d p.x; r = next; d = redirected n (beta_of p.r next) (P next) p.d }

  pub method : Method n A P b start
  unfolding point
  method = record {
    x = λ k. (point k).x;
    r = λ k. (point k).r;
    z = λ k. P (point k).r;
    d = λ k. (point k).d;
    alpha = λ k. alpha_of (point k);
    beta = λ k. beta_of (point k).r (point (suc k)).r;
    x_first = refl;
    r_first = refl;
    d_first = refl;
    z_is = λ k. refl;
    alpha_is = λ k. refl;
    x_next = λ k. rw add-one;
    r_next = λ k. rw add-one;
    beta_is = λ k. rw add-one;
    d_next = λ k. rw add-one;
  }
