use Rattle.std.specs.Prelude.{◌≡◌, Err}
use mathlib.Core.Path.{sym}
use native.Mathlib.Omega.{arith}
use borrow.Author.Rules.{rules}
use lib.Seq.{length-take-le}
use Rattle.bench_plan.specs.Read.{read_refused, read_well, read_counted, read_planned}
use Rattle.bench_plan.proofs.inner.from_text.Goals as goal

pub returns-in_err-counts : goal.returns-in_err-counts
returns-in_err-counts c =
    let e : c.from_residual.result ≡ Err c.in_err-counts.field-0.0 = search rules in
    rw e (read_refused _ _ _ _ c.requires.0 c.in_err-counts.ensures _ _ _ _)

pub overflow_mul-m : goal.overflow_mul-m
overflow_mul-m c = let a = read_well _ _ _ _ c.in_ok-counts.ensures in omega (arith, a.few_pairs)

pub slice_bounds-from_pairs-end : goal.slice_bounds-from_pairs-end
slice_bounds-from_pairs-end c = let a = read_well _ _ _ _ c.in_ok-counts.ensures in omega (arith, a.fits, c.read.auto.numbers)

pub slice_bounds-from_pairs-end-2 : goal.slice_bounds-from_pairs-end-2
slice_bounds-from_pairs-end-2 c =
    let a = read_well _ _ _ _ c.in_ok-counts.ensures in
    sym (length-take-le _ _ (omega (arith, a.fits, c.read.auto.numbers)))

pub from_pairs-requires : goal.from_pairs-requires
from_pairs-requires c = (read_counted _ _ _ _ _ (read_well _ _ _ _ c.in_ok-counts.ensures), c.requires.1)

pub returns : goal.returns
returns c = read_planned _ _ _ _ _ (read_well _ _ _ _ c.in_ok-counts.ensures) _ c.from_pairs.ensures
