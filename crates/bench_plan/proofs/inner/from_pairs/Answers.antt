use Rattle.std.specs.Prelude.{◌≡◌, Err}
use mathlib.Core.Path.{sym, ◌∙◌}
use native.Mathlib.Omega.{arith}
use borrow.Author.Rules.{rules}
use borrow.Author.Tests.{leb-true, leb-false}
use Rattle.law.specs.Limit.{envelope}
use Rattle.bench_plan.specs.Built.{ready, built_pattern, starts_part, cols_part}
use Rattle.bench_plan.proofs.Fronts.{passed, failed, gave_four, gave_seven, gave_plan}
use Rattle.bench_plan.proofs.inner.from_pairs.Goals as goal

pub returns-in_err-ensure : goal.returns-in_err-ensure
returns-in_err-ensure c =
    let e : c.from_residual.result ≡ Err c.in_err-ensure.field-0.0 = search rules in
    let f = failed _ _ _ c.in_err-ensure.ensures in
    rw (e, sym f.0) (gave_four _ _ _ c.requires.0 _ _ _ _ (sym c.pairs_ok.ensures ∙ f.1))

pub build-requires : goal.build-requires
build-requires c = ready _ _ _ c.requires.0 _ _ _ _ _ c.requires.1.0 (sym c.pairs_ok.ensures ∙ passed _ _ c.in_ok-ensure.ensures)

pub from_pattern-len-requires : goal.from_pattern-len-requires
from_pattern-len-requires c =
    let pre = c.requires in (
      built_pattern _ _ _ pre.0 _ _ _ _ _ _ _ _ _ c.build.ensures,
      (omega (arith, pre.0.few, pre.1.0.order_room), omega (arith, pre.0.few, pre.1.1)),
    )

pub returns-in_err-ensure-2 : goal.returns-in_err-ensure-2
returns-in_err-ensure-2 c =
    let e : c.from_residual-in_err-ensure-2.result ≡ Err c.in_err-ensure-2.field-0.0 = search rules in
    let f = failed _ _ _ c.in_err-ensure-2.ensures in
    let g = c.requires.0 in
    let built = c.build.ensures in
    rw (e, sym f.0)
    (gave_seven _ _ _ g (sym c.pairs_ok.ensures ∙ passed _ _ c.in_ok-ensure.ensures) _ _ _ (built_pattern _ _ _ g _ _ _ _ _ _ _ _ _ built)
    (starts_part _ _ _ g _ _ _ _ _ _ _ _ _ built) (cols_part _ _ _ g _ _ _ _ _ _ _ _ _ built) _ _ _ _ _ c.from_pattern-len.ensures
    (leb-false _ _ f.1))

pub overflow_cast-result : goal.overflow_cast-result
overflow_cast-result c = omega (arith, leb-true c.from_pattern-len.result envelope (passed _ _ c.in_ok-ensure-2.ensures))

pub returns : goal.returns
returns c =
    let g = c.requires.0 in
    let built = c.build.ensures in
    gave_plan _ _ _ g (sym c.pairs_ok.ensures ∙ passed _ _ c.in_ok-ensure.ensures) _ _ _ (built_pattern _ _ _ g _ _ _ _ _ _ _ _ _ built)
    (starts_part _ _ _ g _ _ _ _ _ _ _ _ _ built) (cols_part _ _ _ g _ _ _ _ _ _ _ _ _ built) _ _ _ _ _ c.from_pattern-len.ensures
    (leb-true _ _ (passed _ _ c.in_ok-ensure-2.ensures))
