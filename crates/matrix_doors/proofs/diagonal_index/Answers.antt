use Rattle.std.proofs.Common.{arith}
use Rattle.matrix_doors.specs.Indexing.{ready}
use Rattle.matrix_doors.proofs.diagonal_index.Goals as goal

pub offset_bounds-pattern-row : goal.offset_bounds-pattern-row
offset_bounds-pattern-row c = let r = ready _ c.in_ok-row.ensures in omega (arith, r.row, r.pattern.few)

pub bounds-pattern-row : goal.bounds-pattern-row
bounds-pattern-row c = let r = ready _ c.in_ok-row.ensures in omega (arith, r.row, r.pattern.held.marks)
