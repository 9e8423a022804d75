-- The definition keeps the rules (module 5) on Zero, Near and Curvature and on the rescale; those on the rescale leave nothing open. Assumes nothing.
use Prim.Native.Nat.{ℕ, ◌*◌}
use native.Mathlib.Omega.{arith}
use mathlib.Core.Path.{◌≡◌, refl, ap, ◌∙◌}
use mathlib.Core.Bool.{Bool, true, false, false≢true, cond}
use mathlib.Core.List.{List}
use borrow.Author.Tests.{le-ltb}
use lib.Ieee.{Float, nan, inf, fin, up, down, lt, le, eq, ne, div, of_bits}
use Rattle.plane.specs.Plane.{◌⊘◌, zero32, one32}
use Rattle.vectors.specs.Whole.{dot_all}
use Rattle.gradient_definition.specs.declared.Turned.TheVariants.{Bent, Done, Onward}
use Rattle.gradient_definition.specs.declared.Outcome.{Outcome}
use Rattle.gradient_definition.specs.declared.Outcome.TheVariants.{Zero, Near, Converged, Curvature, Limit}
use Rattle.gradient_definition.specs.Vectors.{Map, retreated, scaled, zeros}
use Rattle.gradient_definition.specs.Solve.{State, After, Ended, after, ended, turn, clamp_of, rescaled, finish_by, finished, fresh_of, started, solved}
use Rattle.gradient_definition.specs.Rescale.{denominator, minus_zero, Opens, Bends, Clamped, Rescaled, Becomes, Finished}

-- ---- zero and near

pub opens : (n : ℕ) (A P : Map) (b : List Float) (tolerance : Float) (limit : ℕ) (x : List Float)
    → Opens n A b tolerance x (solved n A P b tolerance limit x)
unfolding solved started fresh_of
opens n A P b tolerance limit x = record { zero = λ t. rw t; near = λ r r-is t u. rw (t, ← r-is, u) }

-- ---- the clamp

-- what is above 1 isn't below 0
apart : (a : Float) → lt one32 a ≡ true → lt a zero32 ≡ false
unfolding lt of_bits
apart nan h = refl
apart (inf true) h = absurd (false≢true h)
apart (inf false) h = refl
apart (fin true m e) h = absurd (false≢true h)
apart (fin false m e) h = le-ltb (m * up e * 1) (0 * down e) (omega arith)

module _ (a : Float) where
  nan_stays : a ≡ nan → clamp_of a ≡ nan
  unfolding lt le eq of_bits
  nan_stays e = rw e

  minus_zero_stays : a ≡ minus_zero → clamp_of a ≡ minus_zero
  unfolding lt le eq of_bits
  minus_zero_stays e = rw e

  pub clamp_is : Clamped a (clamp_of a)
  clamp_is = record {
    below = λ t. rw t;
    above = λ t. rw (apart a t, t);
    else = λ t u. rw (t, u);
    not_a_number = nan_stays;
    minus_zero = minus_zero_stays;
  }

  pub one_clamp : (c : Float) → Clamped a c → c ≡ clamp_of a
  one_clamp c h = go (lt a zero32) refl (lt one32 a) refl
    where
      go : (s : Bool) → lt a zero32 ≡ s → (t : Bool) → lt one32 a ≡ t → c ≡ cond s zero32 (cond t one32 a)
      go true p t q = h.below p
      go false p true q = h.above q
      go false p false q = h.else p q

-- ---- curvature

module _ (n : ℕ) (A P : Map) (threshold : Float) (s : State) where
  abbrev den : Float
  den = denominator n A s.direction

  -- the residual that the turn would leave, and its squared length
  abbrev next : List Float
  next = retreated n (s.rz ⊘ den) (A s.direction) s.residual

  abbrev norm : Float
  norm = dot_all n next next

  bent_there : lt zero32 den ≡ false → turn n A P threshold s ≡ after (Bent den) s.x s.residual s.direction
  unfolding turn
  bent_there t = rw t

  bent_only : (d : Float) → (turn n A P threshold s).how ≡ Bent d → lt zero32 den ≡ false
  unfolding turn
  bent_only d h = by (lt zero32 den) refl (le norm threshold) refl
    where
      by : (t : Bool) → lt zero32 den ≡ t → (u : Bool) → le norm threshold ≡ u → t ≡ false
      by false p u q = refl
      by true p true q =
          let f : Done norm ≡ Bent d = rw (p, q) at h in
          let z : ◌≡◌ {A = ℕ} 0 1 = cc in
          absurd (omega arith)
      by true p false q =
          let f : Onward norm (dot_all n next (P next)) ≡ Bent d = rw (p, q) at h in
          let z : ◌≡◌ {A = ℕ} 0 1 = cc in
          absurd (omega arith)

  unordered : (d : Float) → d ≡ nan → lt zero32 d ≡ false
  unfolding lt of_bits
  unordered d e = rw e

  pub bends : Bends n A s (turn n A P threshold s)
  bends = record {
    there = bent_there;
    only_there = bent_only;
    not_a_number = λ e. ap (λ (a : After). a.how) (bent_there (unordered den e)) ∙ ap Bent e;
  }

-- ---- the rescale

-- a quotient by NaN is NaN, and so is its clamp
by_nan : (a : Float) → clamp_of (a ⊘ nan) ≡ nan
unfolding div lt le eq of_bits
by_nan nan = refl
by_nan (inf s) = refl
by_nan (fin s m e) = refl

module _ (n : ℕ) (A : Map) (b x : List Float) where
  abbrev quotient : Float
  quotient = dot_all n b x ⊘ denominator n A x

  nan_goes_on : denominator n A x ≡ nan → rescaled n A b x ≡ scaled n nan x
  unfolding rescaled le lt eq ne of_bits
  nan_goes_on e = rw (e, by_nan)

  pub rescale_is : Rescaled n A b x (rescaled n A b x)
  unfolding rescaled
  rescale_is = record {
    zeroed = λ t. rw t;
    goes_on = nan_goes_on;
    multiplied = λ t alpha h u. rw (← one_clamp quotient alpha h, t, u);
    kept = λ t alpha h u. rw (← one_clamp quotient alpha h, t, u);
  }

  pub one_rescale : (y : List Float) → Rescaled n A b x y → y ≡ rescaled n A b x
  unfolding rescaled
  one_rescale y h = go (le (denominator n A x) zero32) refl (ne (clamp_of quotient) one32) refl
    where
      go : (s : Bool) → le (denominator n A x) zero32 ≡ s → (t : Bool) → ne (clamp_of quotient) one32 ≡ t
          → y ≡ cond s (zeros n) (cond t (scaled n (clamp_of quotient) x) x)
      go true p t q = h.zeroed p
      go false p true q = h.multiplied p (clamp_of quotient) (clamp_is quotient) q
      go false p false q = h.kept p (clamp_of quotient) (clamp_is quotient) q

-- ---- the finish

module _ (n : ℕ) (A : Map) (b : List Float) (e : Ended) where
  becomes_so : (o : Outcome) (x : List Float) → Finished n A b (ended o x) (finish_by o (rescaled n A b x) x)
  becomes_so (Zero count) x = record { how = refl; becomes = refl }
  becomes_so (Near count residual) x = record { how = refl; becomes = refl }
  becomes_so (Converged count residual) x = record { how = refl; becomes = refl }
  becomes_so (Curvature count residual d) x = record { how = refl; becomes = rescale_is n A b x }
  becomes_so (Limit count residual) x = record { how = refl; becomes = rescale_is n A b x }

  pub finish_is : Finished n A b e (finished n A b e)
  unfolding finished
  finish_is = becomes_so e.how e.x

  becomes_only : (o : Outcome) (x y : List Float) → Becomes n A b o x y → ended o y ≡ finish_by o (rescaled n A b x) x
  becomes_only (Zero count) x y h = rw h
  becomes_only (Near count residual) x y h = rw h
  becomes_only (Converged count residual) x y h = rw h
  becomes_only (Curvature count residual d) x y h = ap (ended (Curvature count residual d)) (one_rescale n A b x y h)
  becomes_only (Limit count residual) x y h = ap (ended (Limit count residual)) (one_rescale n A b x y h)

  pub one_finish : (f : Ended) → Finished n A b e f → f ≡ finished n A b e
  unfolding finished
  one_finish f h = ap (λ (o : Outcome). ended o f.x) h.how ∙ becomes_only e.how e.x f.x h.becomes
