use native.Mathlib.Omega.{arith}
use Rattle.columns_axes.proofs.Laws.{axis_is}
use Rattle.columns_axes.proofs.axis.axis.Goals as goal

pub returns : goal.returns
returns c =
    let q = c.requires in
    axis_is _ q.ready _ _ _ q.p_lt_n.1 (omega (arith, q.p_lt_n)) q.p_lt_n.3 _ _ _ _ _ _ _ _ _ _ _ _ _ c.unit.ensures c.unit-2.ensures
    c.respond-how.auto.out c.respond-how.ensures c.counts.ensures
