use native.Mathlib.Omega.{arith}
use Rattle.columns_block.specs.Blocking.{rest_long, both_copied}
use Rattle.columns_block.proofs.block.copy_both.Goals as goal

pub copy-requires : goal.copy-requires
copy-requires c = (omega (arith, c.column.ensures.long), omega arith)

pub copy-requires-2 : goal.copy-requires-2
copy-requires-2 c =
    (omega (arith, c.column-2.ensures.long), rest_long c.args.n c.args.out.now c.copy.new.t c.copy.auto.t c.requires.n_in_bounds)

pub returns : goal.returns
returns c =
    both_copied _ _ _ _ _ _ _ _ c.requires.stored c.requires.n_in_bounds c.column.ensures.same c.column-2.ensures.same c.copy.auto.t c.copy.ensures
    c.copy-2.ensures
