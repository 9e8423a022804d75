use Rattle.std.proofs.Common.{sym, ◌∙◌, arith}
use Rattle.columns_table.specs.Pass.{met_bares, passed_all}
use Rattle.columns_table.proofs.table.eight.Goals as goal

pub returns-then-bare : goal.returns-then-bare
returns-then-bare c =
    let p = c.requires.loaded_le_columns in
    passed_all _ _ _ _ _ (met_bares _ _ _ _ _ _ (omega arith) p.0 p.2 (sym c.bare.ensures ∙ c.if-bare.true))
