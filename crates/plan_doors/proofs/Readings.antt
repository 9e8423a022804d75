-- The starred readings of plans (RULES.md § 11), computed: the whole plan of one particle and of the chain of three, the envelope's length of the others.
use mathlib.Core.Path.{◌≡◌, refl}
use mathlib.Core.List.{[], ◌∷◌}
use Rattle.law.specs.Loop.{fold, over}
use Rattle.law.specs.Gather.{gather}
use Rattle.order_definition.specs.Order.{neighbours, reach, settle, choose_start, fresh, placing, order_of}
use Rattle.order_definition.specs.Envelope.{first_block, first_col, row_starts}
use Rattle.plan_make.specs.Plan.{four, plan_by, plan_of, envelope_length}

none : envelope_length 0 (0 ∷ []) [] ≡ 0
unfolding envelope_length plan_of plan_by gather over fold order_of placing fresh choose_start settle reach neighbours row_starts first_col first_block
none = refl

one : plan_of 1 (0 ∷ 1 ∷ []) (0 ∷ []) ≡ four (0 ∷ []) (0 ∷ []) (0 ∷ 0 ∷ []) (0 ∷ 1 ∷ 3 ∷ [])
unfolding plan_of plan_by gather over fold order_of placing fresh choose_start settle reach neighbours row_starts first_col first_block
one = refl

-- 0-1, 1-2
chain : plan_of 3 (0 ∷ 2 ∷ 5 ∷ 7 ∷ []) (0 ∷ 1 ∷ 0 ∷ 1 ∷ 2 ∷ 1 ∷ 2 ∷ []) ≡ four (2 ∷ 1 ∷ 0 ∷ []) (2 ∷ 1 ∷ 0 ∷ []) (0 ∷ 0 ∷ 0 ∷ 0 ∷ 2 ∷ 2 ∷ [])
    (0 ∷ 1 ∷ 3 ∷ 6 ∷ 10 ∷ 13 ∷ 17 ∷ [])
unfolding plan_of plan_by gather over fold order_of placing fresh choose_start settle reach neighbours row_starts first_col first_block
chain = refl

-- 0-2: the order is not its own inverse
apart : plan_of 4 (0 ∷ 2 ∷ 3 ∷ 5 ∷ 6 ∷ []) (0 ∷ 2 ∷ 1 ∷ 0 ∷ 2 ∷ 3 ∷ []) ≡ four (2 ∷ 0 ∷ 3 ∷ 1 ∷ []) (1 ∷ 3 ∷ 0 ∷ 2 ∷ []) (0 ∷ 0 ∷ 0 ∷ 0 ∷ 4 ∷ 4 ∷ 6 ∷ 6
    ∷ []) (0 ∷ 1 ∷ 3 ∷ 6 ∷ 10 ∷ 11 ∷ 13 ∷ 14 ∷ 16 ∷ [])
unfolding plan_of plan_by gather over fold order_of placing fresh choose_start settle reach neighbours row_starts first_col first_block
apart = refl

-- 1-2, 2-3, 3-4, 4-5, 0-3
moved : envelope_length 6 (0 ∷ 2 ∷ 4 ∷ 7 ∷ 11 ∷ 14 ∷ 16 ∷ []) (0 ∷ 3 ∷ 1 ∷ 2 ∷ 1 ∷ 2 ∷ 3 ∷ 0 ∷ 2 ∷ 3 ∷ 4 ∷ 3 ∷ 4 ∷ 5 ∷ 4 ∷ 5 ∷ []) ≡ 38
unfolding envelope_length plan_of plan_by gather over fold order_of placing fresh choose_start settle reach neighbours row_starts first_col first_block
moved = refl
