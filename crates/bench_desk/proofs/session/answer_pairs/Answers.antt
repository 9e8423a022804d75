use Rattle.std.specs.Prelude.{◌≡◌, Err}
use mathlib.Core.Path.{sym}
use native.Mathlib.Omega.{arith}
use borrow.Author.Rules.{rules}
use borrow.Author.Tests.{leb-true, leb-false}
use lib.Seq.{length-take-le}
use Rattle.bench_plan.proofs.Fronts.{passed, failed}
use Rattle.bench_answer.proofs.Answering.{lines_fit, gave_three, gave_refusal, gave_lines, drafted}
use Rattle.bench_desk.proofs.session.answer_pairs.Goals as goal

pub returns-in_err-ensure : goal.returns-in_err-ensure
returns-in_err-ensure c =
    let e : c.from_residual.result ≡ Err c.in_err-ensure.field-0.0 = search rules in
    let f = failed _ _ _ c.in_err-ensure.ensures in
    rw (e, sym f.0) (gave_three _ _ _ _ c.requires.0 (leb-false _ _ f.1))

pub returns-in_err-draft : goal.returns-in_err-draft
returns-in_err-draft c =
    let e : c.from_residual-in_err-draft.result ≡ Err c.in_err-draft.field-0.0 = search rules in
    rw e (gave_refusal _ _ _ _ (leb-true _ _ (passed _ _ c.in_ok-ensure.ensures)) _ _ _ _ _ c.in_err-draft.ensures)

pub slice_bounds-write_plan-end : goal.slice_bounds-write_plan-end
slice_bounds-write_plan-end c =
    let p = c.requires in
    omega (arith, drafted _ _ _ _ _ _ _ _ c.in_ok-draft.ensures, p.0.few, p.1.0.order_room, c.from_pairs.auto.order)

pub slice_bounds-write_plan-end-2 : goal.slice_bounds-write_plan-end-2
slice_bounds-write_plan-end-2 c =
    let p = c.requires in
    sym (length-take-le _ _ (omega (arith, drafted _ _ _ _ _ _ _ _ c.in_ok-draft.ensures, p.0.few, p.1.0.order_room, c.from_pairs.auto.order)))

pub write_plan-requires : goal.write_plan-requires
write_plan-requires c =
    let p = c.requires in
    let same = drafted _ _ _ _ _ _ _ _ c.in_ok-draft.ensures in
    lines_fit _ _ _ (omega (arith, same, p.0.few, p.1.0.order_room, c.from_pairs.auto.order))
    (omega (arith, same, leb-true _ _ (passed _ _ c.in_ok-ensure.ensures)))

pub returns : goal.returns
returns c =
    gave_lines _ _ _ _ (leb-true _ _ (passed _ _ c.in_ok-ensure.ensures)) _ _ _ _ _ c.in_ok-draft.ensures _ _ c.write_plan.ensures
