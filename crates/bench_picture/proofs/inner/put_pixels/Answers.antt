use mathlib.Core.Path.{refl, ap, ◌∙◌}
use native.Mathlib.Omega.{arith}
use lib.ListN.{length-set}
use Rattle.law.proofs.Store.{table_turn}
use Rattle.bench_picture.specs.Pixels.{digit}
use Rattle.bench_picture.proofs.Lines.{none_yet, all_written}
use borrow.Author.Rules.{rules}
use Rattle.bench_picture.proofs.inner.put_pixels.Goals as goal

pub loop-k-init : goal.loop-k-init
loop-k-init c = (search rules, refl, none_yet _ _)

pub pixel-black-requires : goal.pixel-black-requires
pixel-black-requires c =
    (c.requires.0, (c.requires.1.0, omega (arith, c.loop-k-test.true)))

pub loop-k-preserved : goal.loop-k-preserved
loop-k-preserved c =
    (search rules, simp length-set c.loop-k.invariant.1, table_turn _ _ _ c.loop-k.k _ c.loop-k.invariant.2 (c.digit.ensures ∙ ap digit c.pixel-black.ensures))

pub returns : goal.returns
returns c = (refl, all_written _ _ _ c.loop-k.k _ (omega arith) c.loop-k.invariant.2)
