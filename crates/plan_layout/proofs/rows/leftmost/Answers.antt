use Rattle.std.proofs.Common.{sym, ap, ◌∙◌, arith, ℕ, ◌+◌, drop}
use Rattle.matrix_shape.specs.Rows.{at}
use Rattle.plan_layout.specs.Leftmost.{along_row, along_more, along_none}
use Rattle.plan_layout.proofs.Lesser.{lesser_is}
use Rattle.plan_layout.proofs.rows.leftmost.Goals as goal

pub loop-c-preserved : goal.loop-c-preserved
loop-c-preserved c =
    let l = c.loop-c in
    let p = at c.args.inverse.now in
    ap (λ (b : ℕ). along_row p b (drop (l.c-index + 1) c.args.row.now))
    (c.min-least.ensures ∙ lesser_is _ _ ∙ rw (c.wide-in-loop-c.ensures.same, c.wide.ensures.same))
    ∙ sym (along_more p l.least c.args.row.now l.c-index c.loop-c-test.true)
    ∙ l.invariant

pub returns : goal.returns
returns c = sym (along_none _ _ _ c.loop-c.c-index (omega arith)) ∙ c.loop-c.invariant
