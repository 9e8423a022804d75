use mathlib.Core.Path.{ap}
use mathlib.Core.Bool.{not}
use Rattle.matrix_walk.specs.Walk.{walk_not, walk_ends}
use Rattle.matrix_walk.proofs.rows.walk_ok.Goals as goal

pub returns-then-lines_ok : goal.returns-then-lines_ok
returns-then-lines_ok c = walk_ends _ _ _ _ _ _ _ c.lines_ok.ensures (ap not c.if-lines_ok.true) _ c.ends_ok.ensures

pub returns-else-lines_ok : goal.returns-else-lines_ok
returns-else-lines_ok c = rw c.if-lines_ok.false (walk_not _ _ _ _ _ _ _ c.lines_ok.ensures (ap not c.if-lines_ok.false))
