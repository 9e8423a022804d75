-- THE WHOLE OUTPUT FOR A TEXT: the picture of its pattern before and after ordering, or the line of a refusal. A text is read as the bench program reads
-- it, and refused by the same numbers.
use Rattle.std.specs.Prelude.{ℕ, ◌≡◌, List}
use Rattle.law.specs.Number.{number}
use Rattle.law.specs.Promise.{by}
use Rattle.plan_make.specs.Plan.{plan_of}
use Rattle.bench_text.specs.Text.{particle_count, pair_count, pair_numbers}
use Rattle.bench_print.specs.Lines.{plan_text, refused_text}
use Rattle.bench_plan.specs.Outcome.{starts_by, cols_by, order_by, length_by, verdict_for}
use Rattle.bench_answer.specs.Answer.{answer_of, answer_by}
use Rattle.bench_picture.specs.Pixels.{Scene, scene, picture_of}

-- the pattern of n particles and the first count pairs, and its plan
unfoldable pub scene_by : ℕ → ℕ → List ℕ → Scene
scene_by n count pairs =
    let p = plan_of n (starts_by n count pairs) (cols_by n count pairs) in
    scene n (starts_by n count pairs) (cols_by n count pairs) p.order p.first

unfoldable pub scene_for : List ℕ → Scene
scene_for text = scene_by (particle_count text) (pair_count text) (pair_numbers text)

unfoldable pub spied_of : List ℕ → List ℕ
spied_of text = by (verdict_for text) (picture_of (scene_for text)) (λ k. refused_text (number k))

-- THE BENCH PROGRAM REFUSES THE SAME TEXTS, BY THE SAME NUMBERS
pub bench_too : (text : List ℕ)
    → answer_of text ≡ by (verdict_for text) (plan_text (order_by (particle_count text) (pair_count text) (pair_numbers text))
    (length_by (particle_count text) (pair_count text) (pair_numbers text))) (λ k. refused_text (number k))
bench_too text = answer_by text
