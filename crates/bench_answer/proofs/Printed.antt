-- FROM A CALL'S ANSWER TO WHAT IS PRINTED, in a room for any text's lines.
use Prim.Native.Nat.{ℕ, ◌≤◌}
use Rattle.std.proofs.Math.Path.{◌≡◌, sym, ap}
use Rattle.std.specs.Prelude.{refl, Bool, true, false, List, ◌++◌, leb, Result, Ok, Err}
use Rattle.std.proofs.Common.{◌∙◌, arith, length-take-le, leb-true}
use Rattle.std.proofs.Math.Bool.{cond}
use Rattle.std.proofs.Math.Logic.{⊎_elim}
use Rattle.std.proofs.Math.ListN.{length, drop, length-append}
use Rattle.law.specs.Limit.{particles}
use Rattle.law.specs.Number.{number}
use Rattle.law.specs.declared.refusal.Refusal.{Refusal}
use Rattle.law.specs.declared.refusal.Refusal.TheVariants.{BadText}
use Rattle.law.specs.Promise.{by}
use Rattle.law.specs.Put.{Written}
use Rattle.law.specs.Refusal.{Verdict, verdict}
use Rattle.bench_text.specs.Text.{described, particle_count, pair_count, pair_numbers}
use Rattle.bench_text.specs.Nine.{limits, verdict_by}
use Rattle.bench_text.proofs.Nine.{work_or_refusal}
use Rattle.bench_print.specs.Lines.{refused_text, lines_room}
use Rattle.bench_plan.specs.Outcome as plan
use Rattle.bench_answer.specs.Answer.{answer_of, answer_by}
use Rattle.bench_answer.specs.Answering.{Out, left, refusals, lines_of, work, answering, given_by, Answers}
use Rattle.bench_answer.proofs.Answering.{with_room}

-- by a refusal
refused_so : {A : Type 0} (a : A) (b : Refusal → A) (v : Verdict) (k : Refusal) → v ≡ Err k → by v a b ≡ b k
refused_so a b v k e = rw e

module _ (text old : List ℕ) (room : lines_room particles ≤ length old) where
  -- the call's verdict is the text's, since 3 isn't given
  own_verdict : verdict_by text (refusals (given_by text old)) ≡ plan.verdict_for text
  unfolding verdict_by plan.verdict_for refusals plan.refusals limits verdict
  own_verdict = ap (λ (v : Verdict). cond (described text) v (Err BadText)) (go (leb n particles) refl)
    where
      n : ℕ
      n = particle_count text

      go : (t : Bool) → leb n particles ≡ t → verdict (refusals (given_by text old)) ≡ verdict (plan.refusals (plan.given_by text))
      go true e = with_room n (pair_count text) (pair_numbers text) old (omega (arith, leb-true n particles e))
      go false e = rw e

  module _ (new : List ℕ) where
    -- a refusal's line is to be printed, and the room is as it was
    pub to_print : (k : Refusal) → Answers text old (left (Err k) new) → (new ≡ old) × (answer_of text ≡ refused_text (number k))
    unfolding work
    to_print k is =
        ⊎_elim
        (λ w. absurd (let a : ◌≡◌ {A = Result ℕ Refusal} (Err k) (Ok (length (lines_of (given_by text old)))) = ap (λ (o : Out). o.answer) w.1 in
        let z = a in cc))
        (λ w. let a : ◌≡◌ {A = Result ℕ Refusal} (Err k) (Err w.0) = ap (λ (o : Out). o.answer) w.1.1 in
        let same : w.0 ≡ k = cc in (
          ap (λ (o : Out). o.out) w.1.1,
          answer_by text ∙ refused_so _ (λ j. refused_text (number j)) (plan.verdict_for text) k
              (sym own_verdict ∙ w.1.0 ∙ ap (λ (j : Refusal). Err j) same),
        ))
        (work_or_refusal answering text (given_by text old) (left (Err k) new) is)

    -- the lines stand in the room
    pub printed : (k : ℕ) → Answers text old (left (Ok k) new) → Written (answer_of text) old new k
    unfolding work lines_of
    printed k is =
        ⊎_elim
        (λ (w : (verdict_by text (refusals (given_by text old)) ≡ Ok tt) × (left (Ok k) new ≡ work (given_by text old))).
        let lines = lines_of (given_by text old) in
        let same : answer_of text ≡ lines = answer_by text ∙ ap (λ (v : Verdict). by v lines (λ j. refused_text (number j))) (sym own_verdict ∙ w.0) in
        let a : ◌≡◌ {A = Result ℕ Refusal} (Ok k) (Ok (length lines)) = ap (λ (o : Out). o.answer) w.1 in
        let count : k ≡ length lines = cc in
        let holds : new ≡ lines ++ drop (length lines) old = ap (λ (o : Out). o.out) w.1 in
        let within : k ≤ length new = rw holds (omega (arith, length-append lines (drop (length lines) old))) in
        record { count = rw same count; holds = rw same holds; within = within; taken = sym (length-take-le k new within) })
        (λ w. absurd (let a : ◌≡◌ {A = Result ℕ Refusal} (Ok k) (Err w.0) = ap (λ (o : Out). o.answer) w.1.1 in let z = a in cc))
        (work_or_refusal answering text (given_by text old) (left (Ok k) new) is)
