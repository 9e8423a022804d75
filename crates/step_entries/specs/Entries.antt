-- THE ENTRIES OF A RESPONSE: particles and their gradients. Those at pinned particles are skipped; repeated particles add up, in the order of the entries.
use Rattle.std.specs.Prelude.{ℕ, ◌*◌, ◌≤◌, ◌<◌, ◌≡◌, Bool, cond, ltb, eqb, length, Float}
use Rattle.std.proofs.Math.Path.{refl}
use Rattle.std.proofs.Common.{ap, ◌∙◌, arith, drop_at, ltb-true}
use Rattle.std.proofs.Math.Bool.{true, false}
use mathlib.Core.List.{List, [], ◌∷◌, ◌++◌}
use Rattle.std.proofs.Math.ListN.{drop}
use Rattle.std.specs.Float.Ieee.{lt}
use Rattle.law.specs.Limit.{entries}
use Rattle.law.specs.Loop.{over}
use Rattle.law.proofs.Loop.{over_keeps}
use Rattle.law.specs.Every.{every, some}
use Rattle.law.proofs.Every.{every_at}
use Rattle.law.specs.Store.{drop_written}
use Rattle.law.specs.Gather.{gather}
use Rattle.law.proofs.Mix.{length_parts}
use Rattle.law.specs.Room.{Room, enough}
use Rattle.law.proofs.Room.{enough_is}
use Rattle.plane.specs.Plane.{Vector, ◌⊕◌, zero32, zero_of, add_of, dot_of}
use Rattle.plane.specs.Lent.{vector_at, with_vector}
use Rattle.matrix_shape.specs.Rows.{at}
use Rattle.step_routes.specs.Dense.{cleared}

-- what the lists need, and what they have
unfoldable pub entries_room : ℕ → List ℕ → ℕ → List ℕ → List Float → Room
entries_room n pinned count particles gradients = (n, length pinned) ∷ (count, length particles) ∷ (2 * count, length gradients) ∷ []

unfoldable pub below : ℕ → ℕ → List ℕ → Bool
below n count particles = every (λ e. ltb (at particles e) n) 0 count

-- an entry's particle is free if its mark is zero
unfoldable pub free : List ℕ → List ℕ → ℕ → Bool
free pinned particles e = eqb (at pinned (at particles e)) 0

unfoldable pub any_free : List ℕ → ℕ → List ℕ → Bool
any_free pinned count particles = some (free pinned particles) 0 count

-- the right-hand side, one entry after the other
unfoldable pub load_step : List ℕ → List ℕ → List Float → ℕ → List Float → List Float
load_step pinned particles gradients e l =
    cond (free pinned particles e) (with_vector l (at particles e) (add_of (vector_at l (at particles e)) (vector_at gradients e))) l

unfoldable pub loaded : List ℕ → ℕ → List ℕ → List Float → List Float → List Float
loaded pinned count particles gradients l = over (load_step pinned particles gradients) 0 count l

-- the gradients times the solution, from +0.0, left to right
unfoldable pub gain_step : List ℕ → List ℕ → List Float → List Float → ℕ → Float → Float
gain_step pinned particles gradients out e sum = cond (free pinned particles e) (sum ⊕ dot_of (vector_at gradients e) (vector_at out (at particles e))) sum

unfoldable pub raw_gain : List ℕ → ℕ → List ℕ → List Float → List Float → Float
raw_gain pinned count particles gradients out = over (gain_step pinned particles gradients out) 0 count zero32

-- THE GAIN of a raw sum: one that isn't above zero, NaN included, is +0.0
unfoldable pub gain_of : Float → Float
gain_of raw = cond (lt zero32 raw) raw zero32

-- ---- what the work requires

pub record Entries (n : ℕ) (pinned : List ℕ) (count : ℕ) (particles : List ℕ) (gradients : List Float) : Type 0 where
  pub few : count ≤ entries
  pub marks : n ≤ length pinned
  pub names : count ≤ length particles
  pub parts : 2 * count ≤ length gradients
  pub inside : (e : ℕ) → e < count → at particles e < n

pub entries_of : (n : ℕ) (pinned : List ℕ) (count : ℕ) (particles : List ℕ) (gradients : List Float) → count ≤ entries
    → enough true (entries_room n pinned count particles gradients) ≡ true
    → below n count particles ≡ true → Entries n pinned count particles gradients
unfolding entries_room below
entries_of n pinned count particles gradients l h b =
    let e = enough_is true (entries_room n pinned count particles gradients) h in
    record {
      few = l;
      marks = e.0;
      names = e.1.0;
      parts = e.1.1.0;
      inside = λ k g. ltb-true _ _
          (every_at (λ e. ltb (at particles e) n) 0 count b k (omega arith) g);
    }

pub has_names : (n : ℕ) (pinned : List ℕ) (count : ℕ) (particles : List ℕ) (gradients : List Float)
    → enough true (entries_room n pinned count particles gradients) ≡ true → count ≤ length particles
unfolding entries_room
has_names n pinned count particles gradients h = (enough_is true (entries_room n pinned count particles gradients) h).1.0

-- ---- the turns as the code takes them: k is the particle that it read, u and v the vectors

module _ (pinned particles : List ℕ) (gradients : List Float) (e : ℕ) where
  pub loads : (l m : List Float) (k : ℕ) (u v s : Vector) → free pinned particles e ≡ true → k ≡ at particles e → u ≡ vector_at l k
      → v ≡ vector_at gradients e → s ≡ add_of u v → m ≡ with_vector l k s
      → m ≡ load_step pinned particles gradients e l
  unfolding load_step
  loads l m k u v s t a b c d h = h ∙ rw (t, d, b, c, a)

  pub skips : (l : List Float) → free pinned particles e ≡ false → l ≡ load_step pinned particles gradients e l
  unfolding load_step
  skips l t = rw t

  pub gains : (out : List Float) (sum : Float) (k : ℕ) (u v : Vector) (d : Float) → free pinned particles e ≡ true → k ≡ at particles e
      → u ≡ vector_at gradients e → v ≡ vector_at out k → d ≡ dot_of u v
      → sum ⊕ d ≡ gain_step pinned particles gradients out e sum
  unfolding gain_step
  gains out sum k u v d t a b c h = rw (t, h, b, c, a)

  pub adds_none : (out : List Float) (sum : Float) → free pinned particles e ≡ false → sum ≡ gain_step pinned particles gradients out e sum
  unfolding gain_step
  adds_none out sum t = rw t

-- ---- the right-hand side's rest is as it was

module _ (n : ℕ) (pinned : List ℕ) (count : ℕ) (particles : List ℕ) (gradients : List Float) (w : Entries n pinned count particles gradients) where
  rest_kept : (l : List Float) → drop (2 * n) (loaded pinned count particles gradients l) ≡ drop (2 * n) l
  unfolding loaded load_step
  rest_kept l = over_keeps (λ t. drop (2 * n) t ≡ drop (2 * n) l) (load_step pinned particles gradients) 0 count l
      (λ e t a g h. turn e t g h (free pinned particles e) refl) refl
    where
      turn : (e : ℕ) (t : List Float) → e < count → drop (2 * n) t ≡ drop (2 * n) l → (f : Bool) → free pinned particles e ≡ f
          → drop (2 * n) (load_step pinned particles gradients e t) ≡ drop (2 * n) l
      turn e t g h true q = rw q (drop_written (2 * n) t (2 * at particles e) _ (omega (arith, w.inside e g)) ∙ h)
      turn e t g h false q = rw q h

  pub cleared_again : (l : List Float) → cleared n (loaded pinned count particles gradients (cleared n l)) ≡ cleared n l
  cleared_again l =
      ap (λ (t : List Float). gather (λ k. zero_of) 0 n ++ t) (rest_kept (cleared n l) ∙ drop_at (gather (λ k. zero_of) 0 n) (drop (2 * n) l) (2 * n)
      (length_parts 2 (λ k. zero_of) (λ j. refl) n))
