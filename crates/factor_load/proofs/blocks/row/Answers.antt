use Rattle.factor_load.specs.Load.{slot_of}
use Rattle.factor_load.proofs.blocks.row.Goals as goal

pub slots-requires : goal.slots-requires
slots-requires c =
    rw (
      c.wide-lower.ensures.same,
      c.wide-upper.ensures.same,
      c.wide-low.ensures.same,
      c.wide-i.ensures.same,
      c.wide-b.ensures.same,
      c.wide-a.ensures.same,
    )
    (record { a_le_b = c.requires.loads.rows.rise c.args.r c.requires.r_lt_n.0; by_index = λ k h g. slot_of c.requires.loads c.requires.r_lt_n.1 c.args.r k c.requires.r_lt_n.0 h g })
