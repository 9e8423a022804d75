use Rattle.order_make.proofs.Whole.{rows_rise, table_is, order_is}
use Rattle.order_make.proofs.inner.reverse_cuthill_mckee.Goals as goal

pub fill_degrees-requires-clause-rising : goal.fill_degrees-requires-clause-rising
fill_degrees-requires-clause-rising c = rw c.requires.degrees_len (rows_rise c.args.graph.now)

pub invariant_of-ranked : goal.invariant_of-ranked
invariant_of-ranked c = record { table = table_is c.args.graph.now c.fill_degrees.new.degrees (rw c.requires.degrees_len at c.fill_degrees.ensures) }

pub returns : goal.returns
returns c = order_is c.args.graph.now _ _ c.place_all.ensures c.reverse_into.ensures
