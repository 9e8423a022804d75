-- WHAT AN ANSWER SAYS TO THE CALLER.
use Prim.Native.Nat.{ℕ, ◌+◌, ◌*◌, ◌≤◌}
use Rattle.std.proofs.Math.Path.{◌≡◌, ap}
use Rattle.std.specs.Prelude.{refl, List, take, Result, Ok, Err}
use Rattle.std.proofs.Common.{sym, leb-true}
use Rattle.law.specs.declared.refusal.Refusal.{Refusal}
use Rattle.law.specs.Refusal.{Verdict}
use Rattle.law.specs.Limit.{particles}
use Rattle.law.specs.Promise.{by}
use Rattle.law.proofs.Refusals.{all_pass}
use Rattle.matrix_shape.specs.Rows.{at}
use Rattle.bench_text.specs.Text.{particle_count, pair_count, pair_numbers}
use Rattle.bench_text.specs.Nine.{limits, outcome_by}
use Rattle.bench_text.proofs.Nine.{no_nine}
use Rattle.bench_plan.specs.Outcome.{starts_by, cols_by, order_by, first_by, length_by, draft, Out, later, refusals, left, work, refuse, given_by}
use Rattle.bench_plan.specs.Outcome.{verdict_for, planned_for}
use Rattle.bench_plan.specs.declared.inner.Draft.{Draft}

-- the lists hold the text's pattern and plan
pub record Tells (text : List ℕ) (n len : ℕ) (starts cols order first : List ℕ) : Type 0 where
  pub none : verdict_for text ≡ Ok tt
  pub few : n ≤ particles
  pub same : n ≡ particle_count text
  pub long : len ≡ length_by (particle_count text) (pair_count text) (pair_numbers text)
  pub starts_are : take (n + 1) starts ≡ starts_by (particle_count text) (pair_count text) (pair_numbers text)
  pub cols_are : take (at starts n) cols ≡ cols_by (particle_count text) (pair_count text) (pair_numbers text)
  pub order_is : take n order ≡ order_by (particle_count text) (pair_count text) (pair_numbers text)
  pub first_are : take (2 * n) first ≡ first_by (particle_count text) (pair_count text) (pair_numbers text)

module _ (text starts cols order first : List ℕ) where
  -- whatever goes by the text's verdict
  module _ {A : Type 0} (a : A) (b : Refusal → A) where
    pub told_refused : (k : Refusal) → left (Err k) starts cols order first ≡ planned_for text → by (verdict_for text) a b ≡ b k
    unfolding planned_for outcome_by verdict_for left work
    told_refused k is = go (verdict_for text) (ap (λ (o : Out). o.answer) is)
      where
        go : (v : Verdict) → Err k ≡ (by v (work (given_by text)) (λ j. refuse j (given_by text))).answer → by v a b ≡ b k
        go (Ok tt) x = absurd (let z = x in cc)
        go (Err j) x = let s : j ≡ k = cc in ap b s

  pub told_done : (d : Draft) → left (Ok d) starts cols order first ≡ planned_for text → Tells text d.n d.envelope starts cols order first
  unfolding planned_for outcome_by left work verdict_for refusals limits later
  told_done d is =
      let t = go (verdict_for text) is in
      let a : ◌≡◌ {A = Result Draft Refusal} (Ok d) (Ok (draft (particle_count text) (length_by (particle_count text) (pair_count text) (pair_numbers text)))) =
      ap (λ (o : Out). o.answer) t.1 in
      let whole : d ≡ draft (particle_count text) (length_by (particle_count text) (pair_count text) (pair_numbers text)) = cc in
      let same : d.n ≡ particle_count text = ap (λ (x : Draft). x.n) whole in
      let f = all_pass (refusals (given_by text)) (sym (no_nine text (refusals (given_by text)) t.0).1) in
      record {
        none = t.0;
        few = rw same (leb-true _ _ f.0);
        same = same;
        long = ap (λ (x : Draft). x.envelope) whole;
        starts_are = ap (λ (o : Out). o.starts) t.1;
        cols_are = ap (λ (o : Out). o.cols) t.1;
        order_is = ap (λ (o : Out). o.order) t.1;
        first_are = ap (λ (o : Out). o.first) t.1;
      }
    where
      go : (v : Verdict) → left (Ok d) starts cols order first ≡ by v (work (given_by text)) (λ j. refuse j (given_by text))
          → (v ≡ Ok tt) × (left (Ok d) starts cols order first ≡ work (given_by text))
      go (Ok tt) b = (refl, b)
      go (Err k) b =
          absurd (let a : ◌≡◌ {A = Result Draft Refusal} (Ok d) (Err k) = ap (λ (o : Out). o.answer) b in let z = a in cc)
