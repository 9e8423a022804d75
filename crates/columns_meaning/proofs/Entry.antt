-- One entry combined: the two axes' columns times their weights, over zeros. Assumes nothing.
use Rattle.std.specs.Prelude.{Ok}
use Prim.Native.Nat.{ℕ, ◌*◌, ◌<◌}
use native.Mathlib.Omega.{arith}
use mathlib.Core.Path.{◌≡◌, refl, ap, ◌∙◌, sym}
use mathlib.Core.Bool.{Bool, true, false, cond}
use mathlib.Core.List.{List, [], ◌∷◌, ◌++◌}
use lib.ListN.{length, drop}
use lib.Seq.{drop_at}
use lib.Ieee.{Float, eq}
use borrow.Author.Tests.{eq-eqb, ne_eqb}
use Rattle.law.specs.Limit.{unloaded}
use Rattle.law.specs.Loop.{over, fold}
use Rattle.law.specs.Every.{some}
use Rattle.law.specs.Gather.{gather}
use Rattle.law.proofs.Gather.{gather_same}
use Rattle.law.specs.Mix.{mix}
use Rattle.law.proofs.Mix.{length_parts}
use Rattle.law.specs.Refusal.{Verdict, verdict}
use Rattle.law.proofs.Refusals.{all_pass}
use Rattle.law.specs.Promise.{by, outcome}
use Rattle.plane.specs.Plane.{Vector, pair, x, y, ◌⊕◌, zero32, zero_of, add_of, scale_of, dot_of}
use Rattle.plane.specs.Lent.{vector_at}
use Rattle.vectors.specs.Multiples.{advanced_at}
use Rattle.matrix_shape.specs.Rows.{at}
use Rattle.step_routes.specs.Dense.{cleared}
use Rattle.step_entries.specs.Entries.{free, any_free, gain_step, raw_gain, gain_of}
use Rattle.columns_table.specs.Test.{numbered_is}
use Rattle.columns_table.specs.Columns.{column_of}
use Rattle.columns_combine.specs.Summed.{Sum, sum_of, axis_added, entry_added, summed}
use Rattle.columns_combine.specs.declared.Combined.{Combined}
use Rattle.columns_combine.specs.declared.Combined.TheVariants.{Gain}
use Rattle.columns_combine.specs.Combining.{In, ready, left, refusals, sum_for, answer_of, work, door}
use Rattle.columns_meaning.specs.Combined.{plus, weighted_at, weighted, particle_of, gradient_of, OneEntry, OneEntryWeighs}
use Rattle.columns_meaning.proofs.Parts.{mix_vector}

-- a column times its weight, over a buffer whose front is f's vectors
module _ (n : ℕ) (f : ℕ → Vector) (long : (q : ℕ) → length (f q) ≡ 2) (l : List Float) (weight : Float) (column : List Float) where
  abbrev now : List Float
  now = mix 2 n f l

  plus_mix : cond (eq weight zero32) now (mix 2 n (advanced_at weight column now) now) ≡ mix 2 n (λ q. plus weight (vector_at column q) (f q)) l
  plus_mix = pick (eq weight zero32) refl
    where
      added : mix 2 n (advanced_at weight column now) now ≡ mix 2 n (λ q. add_of (f q) (scale_of (vector_at column q) weight)) l
      added =
          ap (λ (t : List Float). gather (advanced_at weight column now) 0 n ++ t) (drop_at (gather f 0 n) (drop (2 * n) l) (2 * n) (length_parts 2 f long n))
          ∙ ap (λ (t : List Float). t ++ drop (2 * n) l) (gather_same _ _ 0 n (omega arith)
          (λ q _ h. ap (λ (v : Vector). add_of v (scale_of (vector_at column q) weight)) (mix_vector f long n l q h)))

      pick : (t : Bool) → eq weight zero32 ≡ t → cond (eq weight zero32) now (mix 2 n (advanced_at weight column now) now)
          ≡ mix 2 n (λ q. plus weight (vector_at column q) (f q)) l
      pick true e = rw e
      pick false e = rw e added

-- a loaded particle's axis is added, whatever its weight
module _ (n : ℕ) (table : List ℕ) (columns : List Float) (p : ℕ) (has : at table p ≡ unloaded → ⊥) where
  axis_added_lem : (k : ℕ) (weight : Float) (l : List Float) → axis_added n table columns p k weight l
      ≡ sum_of (cond (eq weight zero32) l (mix 2 n (advanced_at weight (column_of n columns (at table p) k) l) l)) false
  unfolding axis_added
  axis_added_lem k weight l = pick (eq weight zero32) refl
    where
      pick : (t : Bool) → eq weight zero32 ≡ t → axis_added n table columns p k weight l
          ≡ sum_of (cond (eq weight zero32) l (mix 2 n (advanced_at weight (column_of n columns (at table p) k) l) l)) false
      pick true e = rw e
      pick false e = rw (e, ne_eqb _ _ has)

plus_long : (weight : Float) (column sum : Vector) → length sum ≡ 2 → length (plus weight column sum) ≡ 2
plus_long weight column sum e = pick (eq weight zero32)
  where
    pick : (t : Bool) → length (cond t sum (add_of sum (scale_of column weight))) ≡ 2
    pick true = e
    pick false = refl

weighted_long : (s t : List Float) (g : Vector) (q : ℕ) → length (weighted_at s t g q) ≡ 2
weighted_long s t g q = plus_long (y g) (vector_at t q) _ (plus_long (x g) (vector_at s q) zero_of refl)

-- a vector's two numbers are the vector
pair_of : (v : Vector) → length v ≡ 2 → pair (x v) (y v) ≡ v
pair_of [] e = absurd (omega arith)
pair_of (a ∷ []) e = absurd (omega arith)
pair_of (a ∷ b ∷ []) e = refl
pair_of (a ∷ b ∷ c ∷ v) e = absurd (omega arith)

module _ (j : In) (s t : List Float) (v : verdict (refusals j) ≡ Ok tt) (w : OneEntry j s t) where
  abbrev p : ℕ
  p = particle_of j

  abbrev g : Vector
  g = gradient_of j

  inside : p < j.n
  inside = (ready j (sym v)).entered.inside 0 (omega (arith, w.one))

  unpinned : at j.pinned p ≡ 0
  unfolding refusals
  unpinned =
      let f = all_pass (refusals j) (sym v) in
      (numbered_is j.n j.pinned j.loaded j.column_of f.1.1.1.1.1.0).unpinned p inside w.has

  -- the sum, axis after axis
  sum_is : sum_for j ≡ sum_of (mix 2 j.n (weighted_at s t g) j.out) false
  unfolding sum_for summed over fold entry_added free
  sum_is =
      let n = j.n in
      let c = column_of n j.columns (at j.column_of p) in
      let added = axis_added_lem n j.column_of j.columns p w.has in
      let f : ℕ → Vector = λ q. plus (x g) (vector_at (c 0) q) zero_of in
      let one = added 0 (x g) (cleared n j.out) ∙ ap (λ (l : List Float). sum_of l false) (plus_mix n (λ _. zero_of) (λ q. refl) j.out (x g) (c 0)) in
      let two = added 1 (y g) (mix 2 n f j.out) ∙ ap (λ (l : List Float). sum_of l false)
      (plus_mix n f (λ q. plus_long (x g) (vector_at (c 0) q) zero_of refl) j.out (y g) (c 1)) in
      rw (w.one, eq-eqb _ _ unpinned, one, two, w.first, w.second)

  out_is : (sum_for j).out ≡ weighted j.n s t g ++ drop (2 * j.n) j.out
  unfolding weighted
  out_is = ap (λ (m : Sum). m.out) sum_is

  at_entry : vector_at (sum_for j).out p ≡ weighted_at s t g p
  at_entry =
      ap (λ (m : Sum). vector_at m.out p) sum_is ∙ mix_vector (weighted_at s t g) (weighted_long s t g) j.n j.out p inside
      ∙ pair_of (weighted_at s t g p) (weighted_long s t g p)

  gain_of_lem : (l : List Float) → raw_gain j.pinned j.count j.particles j.gradients l ≡ zero32 ⊕ dot_of g (vector_at l p)
  unfolding raw_gain over fold gain_step free
  gain_of_lem l = rw (w.one, eq-eqb _ _ unpinned)

  one_free : any_free j.pinned j.count j.particles ≡ true
  unfolding any_free some over fold free
  one_free = rw w.one (eq-eqb _ _ unpinned)

  abbrev gain : Float
  gain = gain_of (zero32 ⊕ dot_of g (weighted_at s t g p))

  answer_is : answer_of j (sum_for j) ≡ Gain gain
  answer_is =
      let e = gain_of_lem (sum_for j).out ∙ ap (λ (u : Vector). zero32 ⊕ dot_of g u) at_entry in
      rw (ap (λ (m : Sum). m.missing) sum_is, one_free, e)

pub one_entry : OneEntryWeighs
unfolding outcome work
one_entry j o h v s t w =
    let is : o ≡ left (Ok (answer_of j (sum_for j))) (sum_for j).out = h ∙ ap (λ (k : Verdict). by k (work j) (λ m. door.refuse m j)) v in
    rw is record { left = out_is j s t v w; gain = ap (λ (r : Combined). Ok r) (answer_is j s t v w) }
