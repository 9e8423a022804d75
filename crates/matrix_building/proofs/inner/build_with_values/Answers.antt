use Rattle.matrix_building.proofs.FromPairs as frompairs_lemmas
use Rattle.matrix_building.proofs.inner.build_with_values.Goals as goal

pub returns : goal.returns
returns c =
    frompairs_lemmas.worked _ _ _ c.build.ensures c.clear_values.ensures
