-- WHAT A COMBINATION OF ONE ENTRY IS: C_p·g, the two columns times the gradient's two numbers, particle by particle; where the columns are the
-- solutions of the two axes, by the definition of C_p.
use Rattle.std.specs.Prelude.{Ok}
use Rattle.std.specs.Prelude.{ℕ, ◌*◌, ◌≤◌, ◌≡◌, cond, List, [], ◌∷◌, ◌++◌, length, drop, Float}
use Rattle.std.specs.Float.Ieee.{eq}
use Rattle.law.specs.Limit.{unloaded}
use Rattle.law.specs.Gather.{gather}
use Rattle.law.specs.Refusal.{verdict}
use Rattle.law.specs.Promise.{Promise}
use Rattle.plane.specs.Plane.{Vector, x, y, ◌⊕◌, zero32, zero_of, add_of, scale_of, dot_of}
use Rattle.plane.specs.Lent.{vector_at}
use Rattle.matrix_shape.specs.Rows.{at}
use Rattle.step_entries.specs.Entries.{gain_of}
use Rattle.step_entries.specs.Lent.{entered}
use Rattle.columns_table.specs.Columns.{column_of}
use Rattle.columns_make.specs.Making as M
use Rattle.columns_combine.specs.declared.Combined.TheVariants.{Gain}
use Rattle.columns_combine.specs.Combining.{In, Out, given, refusals, door}
use Rattle.columns_meaning.specs.Solution.{solution}
use Rattle.columns_meaning.specs.Computed.{Loaded}

-- a column's vector times its weight, added; a weight that equals 0.0 adds nothing
abbrev pub plus : Float → Vector → Vector → Vector
plus weight column sum = cond (eq weight zero32) sum (add_of sum (scale_of column weight))

-- at particle q: zeros, plus s's vector times g's x, plus t's vector times g's y
abbrev pub weighted_at : List Float → List Float → Vector → ℕ → Vector
weighted_at s t g q = plus (y g) (vector_at t q) (plus (x g) (vector_at s q) zero_of)

unfoldable pub weighted : ℕ → List Float → List Float → Vector → List Float
weighted n s t g = gather (weighted_at s t g) 0 n

-- the entry's particle, and its gradient
abbrev pub particle_of : In → ℕ
particle_of j = at j.particles 0

abbrev pub gradient_of : In → Vector
gradient_of j = vector_at j.gradients 0

-- j has one entry, of a loaded particle whose columns are s and t
pub record OneEntry (j : In) (s t : List Float) : Type 0 where
  pub one : j.count ≡ 1
  pub has : at j.column_of (particle_of j) ≡ unloaded → ⊥
  pub first : column_of j.n j.columns (at j.column_of (particle_of j)) 0 ≡ s
  pub second : column_of j.n j.columns (at j.column_of (particle_of j)) 1 ≡ t

-- out's front is the columns times the gradient, its rest is as it was, and the gain is that of the entry's product, which is added to +0.0
pub record Weighs (n p : ℕ) (g : Vector) (s t : List Float) (out : List Float) (o : Out) : Type 0 where
  pub left : o.out ≡ weighted n s t g ++ drop (2 * n) out
  pub gain : o.answer ≡ Ok (Gain (gain_of (zero32 ⊕ dot_of g (weighted_at s t g p))))

abbrev pub OneEntryWeighs : Type 0
OneEntryWeighs = (j : In) (o : Out) → Promise door j o → verdict (refusals j) ≡ Ok tt → (s t : List Float) → OneEntry j s t
    → Weighs j.n (particle_of j) (gradient_of j) s t j.out o

-- the combination of one entry (p, g) from what computing left
abbrev pub from : M.In → M.Out → ℕ → List Float → List Float → In
from i c p g out = given i.n (M.handed_table i) c.columns (entered 1 (p ∷ []) g) out

-- once the columns are computed, one entry of a loaded particle is accepted and is the solutions of its two axes times its gradient
pub record Combines (i : M.In) (c : M.Out) (p : ℕ) (g out : List Float) : Type 0 where
  pub accepted : verdict (refusals (from i c p g out)) ≡ Ok tt
  pub weighs : (o : Out) → Promise door (from i c p g out) o → Weighs i.n p (vector_at g 0) (solution i p 0) (solution i p 1) out o

abbrev pub ComputeCombines : Type 0
ComputeCombines = (i : M.In) (c : M.Out) → Promise M.door i c → verdict (M.refusals i) ≡ Ok tt → (p : ℕ) (g out : List Float) → Loaded i p → 2 ≤ length g
    → 2 * i.n ≤ length out → Combines i c p g out
