use Rattle.matrix_values.specs.Product.{slot_step}
use Rattle.matrix_values.proofs.inner.add_slot.Goals as goal

pub returns : goal.returns
unfolding slot_step
returns c =
    rw (c.add.ensures, c.times.ensures, c.vector_at.ensures, c.block_at.ensures, c.wide-c.ensures.same)
