-- The bench program's readings (RULES.md § 11), and its 9s, computed on the definition of the whole output; and what the call answers, in rooms that are
-- long enough and too short. Assumes nothing.
use Prim.Native.Nat.{ℕ, ◌≤◌, ◌<◌}
use Prim.Native.String.{String}
use mathlib.Core.Path.{◌≡◌, refl}
use mathlib.Core.Bool.{true, false}
use lib.ListN.{length, replicate}
use mathlib.Core.List.{List, [], ◌∷◌, ◌++◌}
use native.Mathlib.Omega.{arith}
use borrow.Author.Tests.{le-leb, lt-leb}
use Rattle.law.specs.All.{all}
use Rattle.law.specs.Bytes.{bytes}
use Rattle.law.specs.Decimal.{value, value_from}
use Rattle.law.specs.Every.{every, some}
use Rattle.law.specs.Gather.{gather, up_to}
use Rattle.law.specs.Limit.{particles, pairs as pairLimit, envelope}
use Rattle.law.specs.Loop.{fold, over}
use Rattle.law.specs.Promise.{outcome}
use Rattle.law.specs.Refusal.{verdict}
use Rattle.law.specs.declared.refusal.Refusal.{Refusal}
use Rattle.law.specs.declared.refusal.Refusal.TheVariants.{TooManyParticles, TooManyEntries, ShortBuffer, OutOfRange, LongEnvelope, BadText}
use Rattle.law.specs.Said.{refused, carries}
use Rattle.std.specs.Prelude.{Ok, Err}
use Rattle.matrix_shape.specs.Made.{row_of, cols_of, start_of, starts_of}
use Rattle.matrix_pairs.specs.Pairs.{pair_ok_at, joined, stored_by}
use Rattle.order_definition.specs.Order.{neighbours, reach, settle, choose_start, fresh, placing, order_of}
use Rattle.order_definition.specs.Envelope.{first_block, first_col, row_starts}
use Rattle.plan_make.specs.Plan.{plan_by, plan_of, envelope_length}
use Rattle.bench_scan.specs.Numbers.{is_gap, is_digit, allowed, before, pieces, filled, numbers, small}
use Rattle.bench_text.specs.Text.{counted, described}
use Rattle.bench_text.specs.Nine.{limits, verdict_by, outcome_by}
use Rattle.bench_text.proofs.Nine.{nine_is, nine_of}
use Rattle.bench_print.specs.Digits.{digits, digits_in}
use Rattle.bench_print.specs.Lines.{item, listed, order_line, number_line, plan_text, refused_text, lines_room}
use Rattle.bench_plan.specs.Built.{Counted}
use Rattle.bench_plan.specs.Outcome.{order_by, length_by, later, refusals}
use Rattle.bench_answer.specs.Lines.{drawn_text}
use Rattle.bench_answer.specs.Answer.{answer_of}
use Rattle.bench_answer.specs.Answering as call

abbrev Says : String → String → Type 0
Says text output = answer_of (bytes text) ≡ bytes output

-- the call, in a room of that many sevens
sevens : ℕ → List ℕ
sevens k = replicate k 7

asked : String → ℕ → call.Out
asked text k = outcome_by call.answering (bytes text) (call.given_by (bytes text) (sevens k))

-- it refuses, and the room is as it was
abbrev Refuses : String → ℕ → Refusal → Type 0
Refuses text k refusal = asked text k ≡ call.left (Err refusal) (sevens k)

record Readings : Type 0 where
  none : Says "0 0" "order\nenvelope 0\n"
  one : Says "1 0" "order 0\nenvelope 3\n"
  three : Says "3 2 0 1 1 2" "order 2 1 0\nenvelope 17\n"
  spaced : Says "\n 003  2\n\n0 1 0001 2 " "order 2 1 0\nenvelope 17\n"
  apart : Says "4 1 0 2" "order 2 0 3 1\nenvelope 16\n"
  moved : Says "6 5 1 2 2 3 3 4 4 5 0 3" "order 5 4 0 3 2 1\nenvelope 38\n"
  repeats : Says "2 4 0 1 1 0 0 1 1 1" "order 1 0\nenvelope 10\n"
  ghost : Says "2 1 9 9" "order 1 0\nenvelope 6\n"
  -- by number
  beyond : Says "2 1 0 2" "refused 4\n"
  many : Says "1025 0" "refused 1\n"
  pairs : drawn_text 1024 4097 [] ≡ bytes "refused 2\n"
  -- 9: nothing, one number, one too few, one too many, a number too large, another byte
  empty : Says "" "refused 9\n"
  lone : Says "0" "refused 9\n"
  short : Says "3 2 0 1 1" "refused 9\n"
  long : Says "3 2 0 1 1 2 0" "refused 9\n"
  large : Says "1 1 4294967296 4294967296" "refused 9\n"
  comma : Says "3,0" "refused 9\n"
  -- 1 before 4, and 9 before both
  both : Says "1025 1 0 2000" "refused 1\n"
  all_three : Says "1025 1 0 2000 0" "refused 9\n"
  -- the call: 59 bytes are room for the lines of three particles, 48 for those of two
  fits : asked "3 2 0 1 1 2" 59 ≡ call.left (Ok 24) (bytes "order 2 1 0\nenvelope 17\n" ++ sevens 35)
  tight : Refuses "3 2 0 1 1 2" 58 ShortBuffer
  -- a short room: 9, 1 and 2 come before 3, and 4 after it
  nine_first : Refuses "3 2 0 1 1" 0 BadText
  one_first : Refuses "1025 0" 0 TooManyParticles
  two_first : outcome call.answering (call.given 1024 4097 [] (sevens 0)) ≡ call.left (Err TooManyEntries) (sevens 0)
  three_first : Refuses "2 1 0 2" 47 ShortBuffer
  four : Refuses "2 1 0 2" 48 OutOfRange
  -- what each answer says
  fits_says : (asked "3 2 0 1 1 2" 59).said ≡ carries 0 (24 ∷ []) []
  four_says : (asked "2 1 0 2" 48).said ≡ refused 4

readings : Readings
unfolding bytes value value_from all every some over fold gather up_to verdict is_gap is_digit allowed before pieces filled numbers small counted
    described row_of cols_of start_of starts_of joined stored_by neighbours reach settle choose_start fresh placing order_of first_block first_col row_starts
    plan_by plan_of envelope_length digits digits_in item listed order_line number_line plan_text refused_text order_by length_by refusals outcome drawn_text
    answer_of limits later verdict_by outcome_by sevens asked call.refusals call.lines_of call.work
readings = record {
  none = refl;
  one = refl;
  three = refl;
  spaced = refl;
  apart = refl;
  moved = refl;
  repeats = refl;
  ghost = refl;
  beyond = refl;
  many = refl;
  pairs = refl;
  empty = refl;
  lone = refl;
  short = refl;
  long = refl;
  large = refl;
  comma = refl;
  both = refl;
  all_three = refl;
  fits = refl;
  tight = refl;
  nine_first = refl;
  one_first = refl;
  two_first = refl;
  three_first = refl;
  four = refl;
  fits_says = refl;
  four_says = refl;
}

-- 9 exactly if the text is not as described, whatever the room
nine_exactly : (text out : List ℕ) → let verdict = verdict_by text (call.refusals (call.given_by text out)) in
    (verdict ≡ Err BadText → described text ≡ false) × (described text ≡ false → verdict ≡ Err BadText)
unfolding limits later call.refusals
nine_exactly text out =
    let tests = call.refusals (call.given_by text out) in
    (nine_is text tests (omega arith, (omega arith, (omega arith, (omega arith, (omega arith, tt))))), nine_of text tests)

-- 7, whose texts are too long to compute: the pairs are in order, there is room, and the envelope is longer than the limit. `gave_three` has 3 before it
seven : (n count : ℕ) (pairs out : List ℕ) → Counted n count pairs → lines_room n ≤ length out → every (pair_ok_at n pairs) 0 count ≡ true
    → envelope < length_by n count pairs → outcome call.answering (call.given n count pairs out) ≡ call.left (Err LongEnvelope) out
unfolding verdict outcome limits later call.refusals
seven n count pairs out g room fine long = rw (
  le-leb n particles g.few,
  le-leb count pairLimit g.few_pairs,
  le-leb (lines_room n) (length out) room,
  fine,
  lt-leb (length_by n count pairs) envelope long,
)
