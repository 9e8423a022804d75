use mathlib.Core.Path.{◌≡◌}
use Prim.Native.Nat.{◌+◌}
use native.Mathlib.Omega.{arith}
use borrow.Author.Rules.{rules}
use Rattle.matrix_shape.specs.Formed.{InRow}
use Rattle.matrix_shape.specs.Rows.{at, row_end}
use Rattle.matrix_pinned.proofs.Mirrors.{cross_at, cross_more, pinned_is}
use Rattle.matrix_pinned.proofs.pinned.make_dirichlet.Goals as goal

pub clear_cross-requires : goal.clear_cross-requires
clear_cross-requires c =
    let slot : InRow (at c.args.pattern.now.row_offsets.now) c.args.row c.loop-k.k = omega (arith, c.wide-start.ensures.same, c.wide-end.ensures.same) in
    cross_at _ _ _ _ c.requires.pattern _ c.requires.row_lt_n _ slot _ (omega (arith, c.requires.n_in_bounds, c.loop-k.invariant.2.long))

pub loop-k-preserved : goal.loop-k-preserved
loop-k-preserved c =
    let slot : InRow (at c.args.pattern.now.row_offsets.now) c.args.row c.loop-k.k = omega
    (arith, c.wide-start.ensures.same, c.wide-end.ensures.same, c.loop-k-test.true) in
    (search rules, search rules, cross_more _ _ _ _ c.requires.pattern _ c.requires.row_lt_n _ c.requires.n_in_bounds _ _ _ slot c.loop-k.invariant.2 c.clear_cross.ensures)

pub set_block-requires : goal.set_block-requires
set_block-requires c =
    let p = c.requires.pattern in
    let row = c.args.row in
    let home = (p.formed.home row c.requires.row_lt_n).0 in
    omega (arith, home.0, home.1, row_end _ _ p.formed.rise row c.requires.row_lt_n, c.wide-slot.ensures.same, c.loop-k.invariant.2.long, c.requires.n_in_bounds)

pub returns : goal.returns
returns c =
    let e : c.loop-k.k ≡ at c.args.pattern.now.row_offsets.now (c.args.row + 1) = omega (arith, c.wide-end.ensures.same, c.loop-k-test.false, c.loop-k.invariant.1) in
    pinned_is _ _ _ _ c.requires.pattern _ c.requires.row_lt_n _ c.requires.n_in_bounds _ (rw e at c.loop-k.invariant.2) _ (rw c.wide-slot.ensures.same at c.set_block.ensures)
