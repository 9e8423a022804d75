use Rattle.matrix_pinned.specs.Marked.{pins, skips}
use Rattle.matrix_pinned.proofs.marked.pin_marked.Goals as goal

pub make_dirichlet-requires : goal.make_dirichlet-requires
make_dirichlet-requires c =
    let p = c.requires in
    (record { pattern = p.reach.pattern; row_lt_n = p.row_lt_n; n_in_bounds = p.reach.blocks })

pub returns-then-marks-row-ne0 : goal.returns-then-marks-row-ne0
returns-then-marks-row-ne0 c =
    pins _ _ _ _ _ _ _ c.if-marks-row-ne0.true c.make_dirichlet.ensures

pub returns-else-marks-row-ne0 : goal.returns-else-marks-row-ne0
returns-else-marks-row-ne0 c = skips _ _ _ _ _ _ c.if-marks-row-ne0.false
