use Rattle.factor_row.specs.Row.{reach_of}
use native.Mathlib.Omega.{arith}
use Rattle.factor_make.proofs.Reach.{corner_in}
use Rattle.factor_make.proofs.rows.row.Goals as goal

pub left-requires-clause-by_index : goal.left-requires-clause-by_index
left-requires-clause-by_index c =
    rw (c.wide-begin.ensures.same, c.wide-low.ensures.same)
    (λ j h g. reach_of c.requires.envelope.drawn c.requires.envelope.whole (record { row = c.requires.i_lt_rows; left = h; upto = omega arith }))

pub pivot-d-requires : goal.pivot-d-requires
pivot-d-requires c = (omega arith, omega (arith, corner_in c.requires.envelope c.requires.i_lt_rows, c.left.auto.values))

pub bounds-values-end : goal.bounds-values-end
bounds-values-end c = omega (arith, corner_in c.requires.envelope c.requires.i_lt_rows, c.left.auto.values)
