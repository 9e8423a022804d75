use Rattle.std.proofs.Common.{ap, sym, ◌∙◌}
use Rattle.std.specs.Prelude.{Bool, ◌&&◌}
use Rattle.law.specs.Truth.{both}
use Rattle.step_solve.specs.Stepping.{directed, iterated}
use Rattle.step_solve.proofs.front.route.Goals as goal

pub solve-requires : goal.solve-requires
solve-requires c = c.requires.planned (sym c.dense-dense.ensures ∙ (both _ _ c.if-dense-system.true).0)

pub returns-then-dense-system : goal.returns-then-dense-system
returns-then-dense-system c =
    directed _ _ _ _ _ _ _ _ (ap (λ (d : Bool). d && c.args.system.now.factored) (sym c.dense-dense.ensures) ∙ c.if-dense-system.true)
    c.solve.ensures c.clear4.ensures

pub sweep-requires : goal.sweep-requires
sweep-requires c = λ d. (c.requires.planned (sym c.dense-dense.ensures ∙ d)).scratch

pub returns : goal.returns
returns c =
    iterated _ _ _ _ _ _ _ _ (ap (λ (d : Bool). d && c.args.system.now.factored) (sym c.dense-dense.ensures) ∙ c.if-dense-system.false)
    c.solve_from_zero-o.ensures (rw c.dense-dense.ensures at c.sweep.ensures)
