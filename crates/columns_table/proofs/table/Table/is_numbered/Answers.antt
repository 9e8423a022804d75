use Rattle.std.proofs.Common.{◌∙◌, arith}
use Rattle.columns_table.specs.Pass.{met_none, too_many, has_fault, has_none, once_each}
use Rattle.columns_table.proofs.table.Table.is_numbered.Goals as goal

pub returns-then-self-gt-COLUMNS : goal.returns-then-self-gt-COLUMNS
returns-then-self-gt-COLUMNS c = too_many _ _ _ _ c.if-self-gt-COLUMNS.true

pub walk-requires-clause-loaded_le_columns : goal.walk-requires-clause-loaded_le_columns
walk-requires-clause-loaded_le_columns c = let l = c.if-self-gt-COLUMNS.false in (l, l, met_none _ _ _ 16 l)

pub returns-then-not-walk : goal.returns-then-not-walk
returns-then-not-walk c = has_fault _ _ _ _ _ _ c.walk.ensures c.if-not-walk.true

pub returns : goal.returns
returns c = has_none _ _ _ _ _ _ _ c.if-self-gt-COLUMNS.false c.walk.ensures c.if-not-walk.false
    (c.each_once.ensures ∙ once_each _ _ (omega arith))
