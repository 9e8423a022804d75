-- Where a row's last entry stands: within the factor's places.
use Rattle.std.specs.Prelude.{ℕ, ◌+◌, ◌-◌, ◌<◌, List, length, Float}
use Rattle.std.proofs.Common.{arith}
use Rattle.matrix_shape.specs.Rows.{at}
use Rattle.plan_fits.specs.Cells.{held, corner}
use Rattle.factor_make.specs.Factor.{Envelope}

pub corner_in : {m i : ℕ} {first starts : List ℕ} {values : List Float} → Envelope m first starts values → i < m
    → at starts i + (i - at first i) < length values
corner_in {m} {i} e l = omega (arith, e.whole, held e.drawn.skyline (corner e.drawn.skyline i l))
