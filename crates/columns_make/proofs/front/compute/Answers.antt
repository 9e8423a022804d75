use Rattle.std.proofs.Common.{refl, sym, ◌∙◌}
use Rattle.columns_axes.proofs.Laws.{still_ready}
use Rattle.columns_make.proofs.Laws.{work_is}
use Rattle.columns_make.proofs.front.compute.Goals as goal

pub sweep-requires : goal.sweep-requires
sweep-requires c = λ d. (c.requires.solvable.planned (sym c.dense.ensures ∙ d)).scratch

pub clear4-requires : goal.clear4-requires
clear4-requires c =
    let g = c.requires.solvable.iterable in
    (g.residual, g.direction, g.a_direction, g.z)

pub all-done-requires : goal.all-done-requires
all-done-requires c =
    let m = c.clear4.auto in
    still_ready _ c.requires _ _ _ _ _ _ _ _ refl c.clear.auto.x c.sweep.auto.scratch m.a m.b m.c m.d

pub returns : goal.returns
returns c =
    work_is _ c.requires _ _ _ _ _ _ _ _ _ _ _ _ _ _ _ _ _ c.clear.ensures (rw c.dense.ensures at c.sweep.ensures) c.clear4.ensures c.fresh.ensures
    c.all-done.ensures c.from.ensures
