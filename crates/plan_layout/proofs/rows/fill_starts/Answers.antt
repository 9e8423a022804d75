use borrow.Author.Rules.{rules}
use mathlib.Core.Path.{◌≡◌, sym, ap, ◌∙◌}
use Prim.Native.Nat.{ℕ, ◌+◌, ◌-◌, zero-le}
use native.Mathlib.Omega.{arith}
use lib.ListN.{length}
use Rattle.law.proofs.Gather.{length_table}
use Rattle.law.specs.Store.{written_whole}
use Rattle.law.proofs.Store.{write_none, table_turn}
use Rattle.matrix_shape.specs.Rows.{at}
use Rattle.plan_layout.specs.Starts.{start_at, start_none, start_more}
use Rattle.plan_layout.proofs.rows.fill_starts.Goals as goal

pub loop-r-init : goal.loop-r-init
loop-r-init c = (zero-le, sym (start_none _), write_none _ _ _ _)

pub loop-r-preserved : goal.loop-r-preserved
loop-r-preserved c =
    let f = at c.args.first.now in
    let r = c.loop-r.r in (
      search rules,
      ap (λ (k : ℕ). k + (r - f r + 1)) c.loop-r.invariant.1 ∙ sym (start_more f r),
      table_turn (start_at f) _ _ r _ c.loop-r.invariant.2 c.loop-r.invariant.1,
    )

pub returns : goal.returns
returns c =
    let f = at c.args.first.now in
    let r = c.loop-r.r in
    let e : r ≡ length c.args.first.now = omega arith in
    rw (← e) (table_turn (start_at f) _ _ r _ c.loop-r.invariant.2 c.loop-r.invariant.1
    ∙ written_whole _ _ (omega (arith, length_table (start_at f) (r + 1), c.requires.row_start_len.0)))
