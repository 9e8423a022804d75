-- WHAT IS PRINTED OF PAIRS: the lines of their plan, or the line of a refusal.
use Rattle.std.specs.Prelude.{ℕ, List}
use Rattle.law.specs.Number.{number}
use Rattle.law.specs.Promise.{Door, outcome}
use Rattle.bench_print.specs.Lines.{plan_text, refused_text}
use Rattle.bench_plan.specs.Outcome.{order_by, length_by, In, given, refusals, in_order}

-- as a door whose work and whose refusals are lines, so that lowest number first is every door's law
abbrev pub drawing : Door In (List ℕ)
drawing = record {
  tests = refusals;
  in_order = in_order;
  work = λ i. plan_text (order_by i.n i.count i.pairs)
      (length_by i.n i.count i.pairs);
  refuse = λ k i. refused_text (number k);
}

unfoldable pub drawn_text : ℕ → ℕ → List ℕ → List ℕ
drawn_text n count pairs = outcome drawing (given n count pairs)
