use Rattle.matrix_shape.specs.Rows.{at}
use Rattle.matrix_shape.specs.Search.{Searched}
use Rattle.matrix_shape.proofs.index.searched.Given as goal

abbrev pub invariant-loop-size : goal.invariant-loop-size
invariant-loop-size l = Searched (at l.cols) l.a l.b l.col l.low l.size

abbrev pub decreases-loop-size : goal.decreases-loop-size
decreases-loop-size l = l.size
