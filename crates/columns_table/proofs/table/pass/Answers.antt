use mathlib.Core.Bool.{not}
use Rattle.std.proofs.Common.{ap, arith, rules, length-set}
use Rattle.columns_table.specs.Pass.{times_most, is_number, met_bare, met_one, passed_not}
use Rattle.columns_table.proofs.table.pass.Goals as goal
use Rattle.columns_table.proofs.table.pass.Goals.{in-Some+else-not-c-table, in_default}

pub returns-then-not-c-table : goal.returns-then-not-c-table
returns-then-not-c-table c =
    passed_not _ _ _ c.loop-p.p _ _ _ c.loop-p-test.true (λ u. omega (arith, c.in-Some.ensures)) c.in-Some.ensures.0 (ap not c.if-not-c-table.true)

pub overflow_add-seen : goal.overflow_add-seen
overflow_add-seen c =
    let i = c.args.table.now in
    let t = is_number i.pinned.now i.loaded i.column_of.now _ _ (ap not c.if-not-c-table.false) in
    omega (arith, c.loop-p.invariant.2.counts _ t.0, times_most i.column_of.now c.in-Some.c c.loop-p.p)

pub loop-p-preserved : goal.loop-p-preserved
loop-p-preserved c =
    let i = c.args.table.now in
    elim c.match-column.branch [
      | in-Some+else-not-c-table w ↦
          let t = is_number i.pinned.now i.loaded i.column_of.now _ _ (ap not w.if-not-c-table.false) in (
            search rules,
            rw w.seen-is (simp length-set c.loop-p.invariant.1),
            rw w.seen-is (met_one _ _ _ _ _ _ (omega arith) c.loop-p.invariant.2 w.in-Some.ensures.0 t.0 t.1),
          )
      | in_default w ↦
          (search rules, rw w.seen-is c.loop-p.invariant.1, rw w.seen-is (met_bare _ _ _ _ _ c.requires.loaded_le_columns.0 c.loop-p.invariant.2 w.in_default.ensures))
    ]
