use mathlib.Core.Path.{◌∙◌}
use Rattle.matrix_shape.proofs.Search.{search_finds}
use Rattle.matrix_shape.proofs.index.slot_of.Goals as goal

pub searched-requires : goal.searched-requires
searched-requires c = (c.requires.columns, c.requires.few)

pub returns : goal.returns
returns c = c.searched.ensures ∙ search_finds _ _ _ _ c.requires.strict
