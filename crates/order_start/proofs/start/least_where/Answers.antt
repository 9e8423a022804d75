use Prim.Native.Nat.{ℕ}
use mathlib.Core.Path.{sym, ap, ◌∙◌}
use lib.ListN.{length, get_or}
use borrow.Author.Tests.{eq-eqb, ne_eqb}
use Rattle.std.proofs.Common.{Option, Some}
use Rattle.order_definition.specs.Keys.{key_of, valued, offer}
use Rattle.order_definition.proofs.Choosing.{best_below, best_yes, best_no}
use Rattle.order_start.proofs.start.least_where.Goals as goal
use Rattle.order_start.proofs.start.least_where.Goals.{then-vals-wide, else-vals-wide}

pub lower_of-requires-clause-best_in_bounds : goal.lower_of-requires-clause-best_in_bounds
lower_of-requires-clause-best_in_bounds c =
    rw c.loop-w.invariant (best_below (key_of c.args.degrees.now) (valued c.args.vals.now c.args.want) c.args.list.now (length c.args.degrees.now)
    c.loop-w.w-index c.requires.below)

pub loop-w-preserved : goal.loop-w-preserved
loop-w-preserved c =
    let l = c.loop-w in
    let d = key_of c.args.degrees.now in
    let t = valued c.args.vals.now c.args.want in
    elim c.if-vals-wide.branch [
      | then-vals-wide w ↦
          let yes = rw c.wide.ensures.same at (eq-eqb (get_or c.args.vals.now c.wide.result 0) c.args.want w.if-vals-wide.true) in
          w.best-is
          ∙ ap Some (w.lower_of.ensures ∙ ap (λ (b : Option ℕ). offer d b (get_or c.args.list.now l.w-index 0)) l.invariant)
          ∙ sym (best_yes d t c.args.list.now l.w-index c.loop-w-test.true yes)
      | else-vals-wide w ↦
          let no = rw c.wide.ensures.same at (ne_eqb (get_or c.args.vals.now c.wide.result 0) c.args.want w.if-vals-wide.false) in
          w.best-is ∙ l.invariant ∙ sym (best_no d t c.args.list.now l.w-index c.loop-w-test.true no)
    ]
