-- Worked answers, computed: the example of RULES.md § 9, an empty order, the largest number, a refusal.
use mathlib.Core.Path.{◌≡◌, refl}
use mathlib.Core.List.{[], ◌∷◌}
use Rattle.law.specs.Bytes.{bytes}
use Rattle.law.specs.Gather.{gather}
use Rattle.law.specs.Loop.{fold, over}
use Rattle.bench_print.specs.Digits.{digits, digits_in}
use Rattle.bench_print.specs.Lines.{item, listed, order_line, number_line, plan_text, refused_text}

record Readings : Type 0 where
  three : plan_text (2 ∷ 1 ∷ 0 ∷ []) 17 ≡ bytes "order 2 1 0\nenvelope 17\n"
  none : plan_text [] 0 ≡ bytes "order\nenvelope 0\n"
  large : plan_text (1023 ∷ []) 4294967295 ≡ bytes "order 1023\nenvelope 4294967295\n"
  refused : refused_text 4 ≡ bytes "refused 4\n"

readings : Readings
unfolding bytes digits digits_in item listed gather over fold order_line number_line plan_text refused_text
readings = record { three = refl; none = refl; large = refl; refused = refl }
