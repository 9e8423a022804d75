use mathlib.Core.Path.{refl, ◌∙◌}
use Prim.Native.Nat.{zero-le}
use native.Mathlib.Omega.{arith}
use Rattle.law.proofs.Loop.{over_none, over_turn, over_done}
use Rattle.matrix_pinned.specs.Marked.{pinned_marked}
use borrow.Author.Rules.{rules}
use Rattle.matrix_pinned.proofs.marked.make_dirichlet_marked.Goals as goal

pub loop-row-init : goal.loop-row-init
loop-row-init c = (zero-le, over_none _ 0 _, refl)

pub pin_marked-requires : goal.pin_marked-requires
pin_marked-requires c =
    let p = c.requires in
    (record { reach = record { pattern = p.pattern; marked = p.marked; blocks = omega (arith, p.blocks, c.loop-row.invariant.2) }; row_lt_n = c.loop-row-test.true })

pub loop-row-preserved : goal.loop-row-preserved
loop-row-preserved c =
    (search rules, over_turn _ 0 _ _ _ _ zero-le c.loop-row.invariant.1 c.pin_marked.ensures, c.pin_marked.auto.blocks ∙ c.loop-row.invariant.2)

pub returns : goal.returns
unfolding pinned_marked
returns c =
    over_done _ 0 _ _ _ _ c.loop-row.invariant.1 c.loop-row.invariant.0 c.loop-row-test.false
