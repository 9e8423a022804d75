use Prim.Native.Nat.{◌+◌, ◌-◌}
use native.Mathlib.Omega.{arith}
use mathlib.Core.Path.{◌≡◌, sym, ◌∙◌}
use Rattle.order_definition.specs.Marks.{unmarked}
use Rattle.order_search.specs.Graph.{beside}
use Rattle.order_start.proofs.Settling.{settle_stop, settle_go, none}
use Rattle.order_start.proofs.start.settle_start.Goals as goal

pub returns-then-next-last-clause-value : goal.returns-then-next-last-clause-value
returns-then-next-last-clause-value c =
    let l = c.loop in
    let g = c.args.ranked.now.graph in
    sym (settle_stop (beside g) g.n (unmarked c.args.mark.now) (4 - l.counter) l.s l.last.far l.last.deep (omega arith)
    (omega (arith, c.look-next.ensures.deep_value))) ∙ l.invariant.4

pub loop-preserved : goal.loop-preserved
loop-preserved c =
    let l = c.loop in
    let g = c.args.ranked.now.graph in
    let next = c.look-next in
    let step = settle_go (beside g) g.n (unmarked c.args.mark.now) (4 - l.counter) l.s l.last.far l.last.deep (omega arith)
    (omega (arith, next.ensures.deep_value)) in
    let one : (4 - l.counter) - 1 ≡ 4 - (l.counter + 1) = omega arith in (
      omega arith,
      record { marks = l.invariant.1.marks; levels = next.auto.level ∙ l.invariant.1.levels; places = next.auto.queue ∙ l.invariant.1.places },
      l.invariant.3,
      next.ensures.far_free,
      rw (next.ensures.far_value, next.ensures.deep_value, ← one) (sym step ∙ l.invariant.4),
    )

pub returns-clause-value : goal.returns-clause-value
returns-clause-value c =
    let g = c.args.ranked.now.graph in
    none (beside g) g.n (unmarked c.args.mark.now) (4 - c.loop.counter) c.loop.s _ _ (omega arith) ∙ c.loop.invariant.4
