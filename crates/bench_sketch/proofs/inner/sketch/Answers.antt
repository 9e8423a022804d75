use Rattle.std.specs.Prelude.{◌≡◌, Err}
use mathlib.Core.Path.{sym}
use borrow.Author.Rules.{rules}
use lib.Seq.{length-take-le}
use Rattle.bench_sketch.specs.Sketch.{sketched_none, sketched}
use Rattle.bench_sketch.proofs.inner.sketch.Goals as goal

pub slice_bounds-from_text-end : goal.slice_bounds-from_text-end
slice_bounds-from_text-end c = sym (length-take-le _ _ c.requires.0.within)

pub returns-in_err-draft : goal.returns-in_err-draft
returns-in_err-draft c =
    let e : c.from_residual.result ≡ Err c.in_err-draft.field-0.0 = search rules in
    rw e (sketched_none _ _ c.requires.0 _ _ _ _ _ c.in_err-draft.ensures)

pub returns : goal.returns
returns c = sketched _ _ c.requires.0 _ _ _ _ _ c.in_ok-draft.ensures
