use Rattle.matrix_building.proofs.Building as building_lemmas
use Rattle.matrix_building.proofs.inner.build.Goals as goal

pub returns : goal.returns
returns c = building_lemmas.worked _ _ _ _ _ _ c.build.ensures
