-- Whole pictures, computed on the definition of the output. Assumes nothing.
use Prim.Native.String.{String}
use mathlib.Core.Path.{◌≡◌, refl}
use Rattle.law.specs.All.{all}
use Rattle.law.specs.Bytes.{bytes}
use Rattle.law.specs.Decimal.{value, value_from}
use Rattle.law.specs.Every.{every, some}
use Rattle.law.specs.Gather.{gather, up_to}
use Rattle.law.specs.Loop.{fold, over}
use Rattle.law.specs.Refusal.{verdict}
use Rattle.matrix_shape.specs.Formed.{stored}
use Rattle.matrix_shape.specs.Made.{row_of as columnsOf, cols_of, start_of, starts_of}
use Rattle.matrix_pairs.specs.Pairs.{joined, stored_by}
use Rattle.order_definition.specs.Order.{neighbours, reach, settle, choose_start, fresh, placing, order_of}
use Rattle.order_definition.specs.Envelope.{first_block, first_col, row_starts}
use Rattle.plan_make.specs.Plan.{plan_by, plan_of, envelope_length}
use Rattle.bench_scan.specs.Numbers.{is_gap, is_digit, allowed, before as piecesBefore, pieces, filled, numbers, small}
use Rattle.bench_text.specs.Text.{counted, described}
use Rattle.bench_text.specs.Nine.{limits, verdict_by}
use Rattle.bench_print.specs.Digits.{digits, digits_in}
use Rattle.bench_print.specs.Lines.{number_line, refused_text}
use Rattle.bench_plan.specs.Outcome.{length_by, later, refusals, verdict_for}
use Rattle.bench_picture.specs.Pixels.{before, moved, hatched, after, pixel, digit, row_of, header_of, picture_of}
use Rattle.bench_sketch.specs.Spied.{scene_by, scene_for, spied_of}

abbrev Says : String → String → Type 0
Says text output = spied_of (bytes text) ≡ bytes output

record Readings : Type 0 where
  none : Says "0 0" "P1\n1 0\n"
  one : Says "1 0" "P1\n5 2\n11011\n11011\n"
  three : Says "3 2 0 1 1 2" "P1\n13 6\n1111000111100\n1111000111100\n1111110111111\n1111110111111\n0011110001111\n0011110001111\n"
  beyond : Says "2 1 0 2" "refused 4\n"
  many : Says "1025 0" "refused 1\n"
  empty : Says "" "refused 9\n"

readings : Readings
unfolding bytes value value_from all every some over fold gather up_to verdict stored columnsOf cols_of start_of starts_of joined stored_by neighbours reach
    settle choose_start fresh placing order_of first_block first_col row_starts plan_by plan_of envelope_length is_gap is_digit allowed piecesBefore pieces
    filled numbers small counted described digits digits_in number_line refused_text length_by refusals before moved hatched after pixel digit row_of
    header_of picture_of scene_by scene_for limits later verdict_by verdict_for spied_of
readings = record { none = refl; one = refl; three = refl; beyond = refl; many = refl; empty = refl }
