-- THE RULES ON ZERO, NEAR AND CURVATURE AND ON THE RESCALE (RULES.md, module 5), as propositions that name no step of the definition;
-- that the definition keeps them is proofs/Rescale.antt.
use Rattle.std.specs.Prelude.{ℕ, ◌≡◌, true, false, List, Float}
use Rattle.std.specs.Float.{nan, binary32}
use Rattle.std.specs.Float.Ieee.{of_bits, lt, le, eq, ne}
use Rattle.plane.specs.Plane.{◌⊗◌, ◌⊘◌, zero32, one32}
use Rattle.vectors.specs.Whole.{dot_all}
use Rattle.gradient_definition.specs.declared.Turned.TheVariants.{Bent}
use Rattle.gradient_definition.specs.declared.Outcome.{Outcome}
use Rattle.gradient_definition.specs.declared.Outcome.TheVariants.{Zero, Near, Converged, Curvature, Limit}
use Rattle.gradient_definition.specs.Vectors.{Map, lacking, scaled, zeros}
use Rattle.gradient_definition.specs.Solve.{State, After, Ended, after, ended}

-- the denominator: of a turn with the direction for v, of the rescale with x
abbrev pub denominator : ℕ → Map → List Float → Float
denominator n A v = dot_all n v (A v)

abbrev pub minus_zero : Float
minus_zero = of_bits binary32 0x8000_0000

-- ZERO: b's squared length equals 0; x zeroed; count 0. NEAR: the first residual is within the threshold; count 0. e is what a solve from x comes to
pub record Opens (n : ℕ) (A : Map) (b : List Float) (tolerance : Float) (x : List Float) (e : Ended) : Type 0 where
  pub zero : eq (dot_all n b b) zero32 ≡ true → e ≡ ended (Zero 0) (zeros n)
  pub near : (r : List Float) → r ≡ lacking n b (A x) → eq (dot_all n b b) zero32 ≡ false
      → le (dot_all n r r) (tolerance ⊗ tolerance ⊗ dot_all n b b) ≡ true → e ≡ ended (Near 0 (dot_all n r r)) x

-- CURVATURE: the denominator isn't above zero, NaN included. a is what a turn from s comes to
pub record Bends (n : ℕ) (A : Map) (s : State) (a : After) : Type 0 where
  pub there : lt zero32 (denominator n A s.direction) ≡ false
      → a ≡ after (Bent (denominator n A s.direction)) s.x s.residual s.direction
  pub only_there : (den : Float) → a.how ≡ Bent den → lt zero32 (denominator n A s.direction) ≡ false
  pub not_a_number : denominator n A s.direction ≡ nan → a.how ≡ Bent nan

-- THE CLAMP of a to c, into 0..1: NaN and -0.0 stay
pub record Clamped (a c : Float) : Type 0 where
  pub below : lt a zero32 ≡ true → c ≡ zero32
  pub above : lt one32 a ≡ true → c ≡ one32
  pub else : lt a zero32 ≡ false → lt one32 a ≡ false → c ≡ a
  pub not_a_number : a ≡ nan → c ≡ nan
  pub minus_zero : a ≡ minus_zero → c ≡ minus_zero

-- THE RESCALE of x to y
pub record Rescaled (n : ℕ) (A : Map) (b x y : List Float) : Type 0 where
  -- a denominator at or below zero zeroes x
  pub zeroed : le (denominator n A x) zero32 ≡ true → y ≡ zeros n
  -- a NaN one goes on, and all of x is NaN
  pub goes_on : denominator n A x ≡ nan → y ≡ scaled n nan x
  -- else alpha is the quotient, clamped: x is multiplied by it only where it isn't 1
  pub multiplied : le (denominator n A x) zero32 ≡ false → (alpha : Float) → Clamped (dot_all n b x ⊘ denominator n A x) alpha → ne alpha one32 ≡ true
      → y ≡ scaled n alpha x
  pub kept : le (denominator n A x) zero32 ≡ false → (alpha : Float) → Clamped (dot_all n b x ⊘ denominator n A x) alpha → ne alpha one32 ≡ false → y ≡ x

-- ONLY CURVATURE AND LIMIT RESCALE: what becomes of a run's x as y, by the run's outcome
abbrev pub Becomes : ℕ → Map → List Float → Outcome → List Float → List Float → Type 0
Becomes n A b (Zero count) x y = y ≡ x
Becomes n A b (Near count residual) x y = y ≡ x
Becomes n A b (Converged count residual) x y = y ≡ x
Becomes n A b (Curvature count residual den) x y = Rescaled n A b x y
Becomes n A b (Limit count residual) x y = Rescaled n A b x y

-- THE FINISH of a run's end e as f: the outcome stays
pub record Finished (n : ℕ) (A : Map) (b : List Float) (e f : Ended) : Type 0 where
  pub how : f.how ≡ e.how
  pub becomes : Becomes n A b e.how e.x f.x
