-- What follows of specs/Answering.antt: its theorems, apart from the definitions.
use Rattle.std.specs.Prelude.{ℕ, ◌*◌, ◌≤◌, ◌<◌, List, ◌++◌, length, Result, Ok, Err}
use Rattle.std.proofs.Math.Path.{◌≡◌, ap}
use Rattle.std.proofs.Common.{sym, ◌∙◌, arith, length-take-le}
use Rattle.std.proofs.Math.Logic.{⊎_elim}
use Rattle.std.proofs.Math.ListN.{take}
use borrow.Author.Tests.{le-leb, lt-leb}
use Rattle.law.specs.Limit.{particles, pairs as pairLimit}
use Rattle.law.specs.declared.refusal.Refusal.{Refusal}
use Rattle.law.specs.declared.refusal.Refusal.TheVariants.{ShortBuffer}
use Rattle.law.specs.Promise.{Promise}
use Rattle.law.proofs.Promise.{refuses, accepts, work_or_refusal}
use Rattle.law.specs.Put.{Written}
use Rattle.law.specs.Refusal.{Test, verdict}
use Rattle.bench_text.specs.Text.{particle_count, pair_count}
use Rattle.bench_text.specs.Nine.{limits, verdict_by}
use Rattle.bench_text.proofs.Nine.{refused_by, is_described}
use Rattle.bench_text.specs.Reading as reading
use Rattle.bench_print.specs.Lines.{plan_text, lines_room}
use Rattle.bench_plan.specs.Built.{Counted}
use Rattle.bench_plan.specs.Outcome as plan
use Rattle.bench_plan.specs.declared.inner.Draft.{Draft}
use Rattle.bench_answer.specs.Answering.{Answers, Out, answering, given, given_by, left, lines_of, refusals, work}

-- ---- the ways of the code

-- reading refused it
pub gave_early : (text out : List ℕ) (k : Refusal) → ((rest : List Test) → verdict_by text (limits (particle_count text) (pair_count text) ++ rest) ≡ Err k)
    → Answers text out (left (Err k) out)
unfolding refusals
gave_early text out k f = refused_by answering text (given_by text out) k (f _)

-- or took it, and its pairs decide
pub gave_pairs : (text room z out : List ℕ) (n p : ℕ) → reading.Accepted text room z n p → (o : Out)
    → Promise answering (given n p (take (2 * p) z) out) o → Answers text out o
gave_pairs text room z out n p t o h = is_described answering text (given_by text out) o t.right (rw (t.front, t.first, t.second) at h)

-- room for n particles is room for an order of them
pub lines_fit : (n room : ℕ) (l : List ℕ) → n ≤ length l → lines_room n ≤ room → lines_room (length (take n l)) ≤ room
lines_fit n room l h fits = omega (arith, length-take-le n l h)

-- a draft has the pairs' particle count
pub drafted : (n count : ℕ) (pairs s c o f : List ℕ) (d : Draft) → Promise plan.planning (plan.given n count pairs) (plan.left (Ok d) s c o f) → d.n ≡ n
unfolding plan.left plan.work
drafted n count pairs s c o f d is =
    ⊎_elim
    (λ v. let a : ◌≡◌ {A = Result Draft Refusal} (Ok d) (Ok (plan.draft n (plan.length_by n count pairs))) = ap (λ (q : plan.Out). q.answer) v.1 in
    let whole : d ≡ plan.draft n (plan.length_by n count pairs) = cc in
    ap (λ (x : Draft). x.n) whole)
    (λ v. absurd (let a : ◌≡◌ {A = Result Draft Refusal} (Ok d) (Err v.0) = ap (λ (q : plan.Out). q.answer) v.1.1.1 in let z = a in cc))
    (work_or_refusal plan.planning (plan.given n count pairs) (plan.left (Ok d) s c o f) is)

module _ (n count : ℕ) (pairs out : List ℕ) where
  -- 3 BEFORE 4 AND 7: a short room, whatever the pairs and their envelope are
  pub gave_three : Counted n count pairs → length out < lines_room n → Promise answering (given n count pairs out) (left (Err ShortBuffer) out)
  unfolding refusals limits verdict
  gave_three g h =
      refuses answering (given n count pairs out) ShortBuffer
      (rw (le-leb n particles g.few, le-leb count pairLimit g.few_pairs, lt-leb (lines_room n) (length out) h))

  module _ (room : lines_room n ≤ length out) where
    -- where there is room, the verdict is planning's
    pub with_room : verdict (refusals (given n count pairs out)) ≡ verdict (plan.refusals (plan.given n count pairs))
    unfolding refusals plan.refusals limits verdict
    with_room = rw (le-leb (lines_room n) (length out) room)

    module _ (s c o f : List ℕ) where
      pub gave_refusal : (k : Refusal) → Promise plan.planning (plan.given n count pairs) (plan.left (Err k) s c o f)
          → Promise answering (given n count pairs out) (left (Err k) out)
      unfolding plan.left plan.work
      gave_refusal k is =
          ⊎_elim
          (λ w. absurd (let a : ◌≡◌ {A = Result Draft Refusal} (Err k) (Ok (plan.draft n (plan.length_by n count pairs))) = ap (λ (q : plan.Out). q.answer) w.1 in
          let z = a in cc))
          (λ w. let a : ◌≡◌ {A = Result Draft Refusal} (Err k) (Err w.0) = ap (λ (q : plan.Out). q.answer) w.1.1.1 in
          let same : w.0 ≡ k = cc in
          refuses answering (given n count pairs out) k (sym (with_room ∙ w.1.1.0 ∙ ap (λ (j : Refusal). Err j) same)))
          (work_or_refusal plan.planning (plan.given n count pairs) (plan.left (Err k) s c o f) is)

      pub gave_lines : (d : Draft) → Promise plan.planning (plan.given n count pairs) (plan.left (Ok d) s c o f)
          → (new : List ℕ) (r : ℕ) → Written (plan_text (take d.n o) d.envelope) out new r
          → Promise answering (given n count pairs out) (left (Ok r) new)
      unfolding plan.left plan.work work lines_of
      gave_lines d is new r w =
          ⊎_elim
          (λ v. let a : ◌≡◌ {A = Result Draft Refusal} (Ok d) (Ok (plan.draft n (plan.length_by n count pairs))) = ap (λ (q : plan.Out). q.answer) v.1 in
          let whole : d ≡ plan.draft n (plan.length_by n count pairs) = cc in
          let long : d.envelope ≡ plan.length_by n count pairs = ap (λ (x : Draft). x.envelope) whole in
          let same : d.n ≡ n = ap (λ (x : Draft). x.n) whole in
          let order : take n o ≡ plan.order_by n count pairs = rw same at (ap (λ (q : plan.Out). q.order) v.1) in
          accepts answering (given n count pairs out) (sym (with_room ∙ v.0)) (left (Ok r) new)
          (rw (w.count, w.holds, same, long, order)))
          (λ v. absurd (let a : ◌≡◌ {A = Result Draft Refusal} (Ok d) (Err v.0) = ap (λ (q : plan.Out). q.answer) v.1.1.1 in
          let z = a in cc))
          (work_or_refusal plan.planning (plan.given n count pairs) (plan.left (Ok d) s c o f) is)
