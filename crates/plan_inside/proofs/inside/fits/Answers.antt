use mathlib.Core.Path.{sym, ◌∙◌}
use Rattle.plan_fits.specs.Fits.{fits_ok}
use Rattle.plan_fits.proofs.Fits.{planned_is}
use Rattle.plan_fits.specs.Lists.{placed_of}
use Rattle.plan_fits.proofs.Lists.{plan_of}
use Rattle.plan_inside.specs.Half.{half_is}
use Rattle.plan_inside.proofs.inside.fits.Goals as goal

pub rows_ok-requires-clause-placed : goal.rows_ok-requires-clause-placed
rows_ok-requires-clause-placed c =
    placed_of _ _ _ _ _ (plan_of _ _ _ _ _ c.requires.laid (sym c.plan_ok.ensures ∙ c.if-plan_ok.true))

pub returns-then-plan_ok : goal.returns-then-plan_ok
unfolding fits_ok
returns-then-plan_ok c =
    let shown = sym c.plan_ok.ensures ∙ c.if-plan_ok.true in
    rw (shown, c.rows_ok.ensures) (half_is _ _ _ _ _ c.requires.pattern.formed _ _ _ _ (planned_is _ _ _ _ _ shown))
