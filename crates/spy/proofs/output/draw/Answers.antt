use mathlib.Core.Path.{refl, ◌∙◌}
use native.Mathlib.Omega.{arith}
use borrow.Author.Rules.{rules}
use Rattle.spy.proofs.output.draw.Goals as goal

pub header-requires : goal.header-requires
header-requires g c =
    (c.requires.0.few, c.requires.1)

pub overflow_mul-i-end : goal.overflow_mul-i-end
overflow_mul-i-end g c = omega (arith, c.requires.0.few)

pub loop-i-init : goal.loop-i-init
loop-i-init g c = (search rules, refl)

pub write_line-k-requires : goal.write_line-k-requires
write_line-k-requires g c =
    (c.requires.0, (c.loop-i-test.true, omega (arith, c.requires.0.few, c.requires.1, c.loop-i.invariant.1, c.header.auto.line)))

pub slice_bounds-write_all-end : goal.slice_bounds-write_all-end
slice_bounds-write_all-end g c = c.write_line-k.ensures.within

pub slice_bounds-write_all-end-in-loop-i : goal.slice_bounds-write_all-end-in-loop-i
slice_bounds-write_all-end-in-loop-i g c = c.write_line-k.ensures.taken

pub loop-i-preserved : goal.loop-i-preserved
loop-i-preserved g c =
    (search rules, c.write_line-k.auto.out ∙ c.loop-i.invariant.1)
