use mathlib.Core.Path.{◌≡◌}
use native.Mathlib.Omega.{arith}
use Rattle.matrix_pinned.specs.Mirrors.{mirror_of}
use Rattle.matrix_pinned.proofs.Mirrors.{crossed_is}
use Rattle.matrix_pinned.proofs.pinned.clear_cross.Goals as goal

pub mirror-requires : goal.mirror-requires
mirror-requires c = rw c.wide-c.ensures.same c.requires.facing

pub set_block-requires-2 : goal.set_block-requires-2
set_block-requires-2 c =
    -- what the search found is the mirror
    let found : c.wide-other.result ≡ mirror_of c.args.pattern.now.row_offsets.now c.args.pattern.now.cols.now c.args.row c.args.k =
    rw (c.wide-other.ensures.same, c.mirror.ensures, c.wide-c.ensures.same) in
    omega (arith, found, c.requires.slot, c.requires.mirror, c.set_block.auto.s)

pub returns : goal.returns
returns c =
    let found : c.wide-other.result ≡ mirror_of c.args.pattern.now.row_offsets.now c.args.pattern.now.cols.now c.args.row c.args.k =
    rw (c.wide-other.ensures.same, c.mirror.ensures, c.wide-c.ensures.same) in
    crossed_is _ _ _ _ _ _ _ _ found c.set_block.ensures c.set_block-2.ensures
