-- THE BENCH PROGRAM'S WHOLE OUTPUT FOR A TEXT: what is printed of its pairs, or the line of a refusal.
use Rattle.std.specs.Prelude.{ℕ, ◌≡◌, refl, Bool, true, false, cond, List, Err}
use Rattle.law.specs.Number.{number}
use Rattle.law.specs.declared.refusal.Refusal.TheVariants.{BadText}
use Rattle.law.specs.Promise.{by, outcome}
use Rattle.law.specs.Refusal.{verdict}
use Rattle.bench_text.specs.Text.{described, particle_count, pair_count, pair_numbers}
use Rattle.bench_text.specs.Nine.{verdict_by}
use Rattle.bench_print.specs.Lines.{plan_text, refused_text}
use Rattle.bench_plan.specs.Outcome.{order_by, length_by, refusals, given_by, verdict_for}
use Rattle.bench_answer.specs.Lines.{drawn_text}

-- 9 precedes all
unfoldable pub answer_of : List ℕ → List ℕ
answer_of text = cond (described text) (drawn_text (particle_count text) (pair_count text) (pair_numbers text)) (refused_text (number BadText))

-- BY THE VERDICT
pub answer_by : (text : List ℕ)
    → answer_of text ≡ by (verdict_for text) (plan_text (order_by (particle_count text) (pair_count text) (pair_numbers text))
    (length_by (particle_count text) (pair_count text) (pair_numbers text))) (λ k. refused_text (number k))
unfolding answer_of drawn_text outcome verdict_for verdict_by
answer_by text = go (described text)
  where
    n : ℕ
    n = particle_count text

    count : ℕ
    count = pair_count text

    pairs : List ℕ
    pairs = pair_numbers text

    go : (d : Bool) → cond d (drawn_text n count pairs) (refused_text (number BadText)) ≡ by (cond d (verdict (refusals (given_by text))) (Err BadText))
        (plan_text (order_by n count pairs) (length_by n count pairs)) (λ k. refused_text (number k))
    go true = refl
    go false = refl
