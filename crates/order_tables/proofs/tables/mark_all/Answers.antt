use Rattle.std.proofs.Common.{sym, arith, add-one, length-set}
use Rattle.order_definition.proofs.Filling.{mark_all_more}
use Rattle.order_tables.proofs.tables.mark_all.Goals as goal

pub loop-w-preserved : goal.loop-w-preserved
loop-w-preserved c =
    let l = c.loop-w in (
      simp length-set l.invariant.0,
      rw (c.wide.ensures.same, l.invariant.1, add-one l.w-index) (sym (mark_all_more c.args.mark.now c.args.list.now l.w-index (omega arith))),
    )
