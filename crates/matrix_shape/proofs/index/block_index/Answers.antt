use native.Mathlib.Omega.{arith}
use Rattle.matrix_shape.specs.Index.{index_of}
use Rattle.matrix_shape.proofs.index.block_index.Goals as goal

pub slot_of-requires : goal.slot_of-requires
slot_of-requires c =
    let l = c.requires in
    rw (c.wide-b.ensures.same, c.wide-a.ensures.same)
    (record { order = l.rise; columns = l.columns; few = omega (arith, c.wide-b.ensures.same, c.wide-b.ensures.small); strict = l.strict })

pub returns : goal.returns
unfolding index_of
returns c =
    rw (c.slot_of.ensures, c.wide-b.ensures.same, c.wide-a.ensures.same)
