use Rattle.columns_table.specs.Columns.{room_none, room_by}
use Rattle.columns_table.proofs.table.Table.columns_fit.Goals as goal

pub returns-then-n-eq0 : goal.returns-then-n-eq0
returns-then-n-eq0 c = room_none _ _ _ c.if-n-eq0.true

pub returns : goal.returns
returns c = room_by _ _ _ c.if-n-eq0.false
