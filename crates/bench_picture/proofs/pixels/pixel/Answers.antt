use native.Mathlib.Omega.{arith}
use mathlib.Core.Path.{◌∙◌, sym}
use Rattle.bench_picture.specs.Pixels.{before}
use Rattle.bench_picture.specs.Panels.{left_panel, between, right_panel}
use Rattle.bench_picture.proofs.pixels.pixel.Goals as goal

pub has-requires : goal.has-requires
has-requires c =
    c.requires.0.line _ (omega (arith, c.requires.1.0))

pub returns-then-k-side : goal.returns-then-k-side
unfolding before
returns-then-k-side c = c.has.ensures ∙ sym (left_panel _ _ _ c.if-k-side.true)

pub returns-then-k-side-2 : goal.returns-then-k-side-2
returns-then-k-side-2 c = sym (between _ _ _ c.if-k-side-2.true)

pub returns : goal.returns
returns c = c.ordered.ensures ∙ sym (right_panel _ _ _ (omega arith))
