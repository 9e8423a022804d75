use mathlib.Core.Path.{sym, ◌∙◌}
use Rattle.step_response.specs.Responding.{nothing_left, is_answered}
use Rattle.step_response.proofs.front.respond.Goals as goal

pub any_free-requires : goal.any_free-requires
any_free-requires c = c.requires.entered

pub solve-requires : goal.solve-requires
solve-requires c = c.requires

pub returns-then-any_free : goal.returns-then-any_free
returns-then-any_free c =
    is_answered _ _ (sym c.any_free.ensures ∙ c.if-any_free.true) c.solve.ensures

pub clear-requires : goal.clear-requires
clear-requires c = c.requires.solvable.iterable.x

pub clear-requires-2 : goal.clear-requires-2
clear-requires-2 c = c.requires.solvable.iterable.b

pub sweep-requires : goal.sweep-requires
sweep-requires c = λ d. (c.requires.solvable.planned (sym c.dense.ensures ∙ d)).scratch

pub clear4-requires : goal.clear4-requires
clear4-requires c =
    let g = c.requires.solvable.iterable in
    (g.residual, g.direction, g.a_direction, g.z)

pub returns : goal.returns
returns c =
    nothing_left _ _ _ _ _ _ _ _ (sym c.any_free.ensures ∙ c.if-any_free.false) c.clear.ensures c.clear-2.ensures
    (rw c.dense.ensures at c.sweep.ensures) c.clear4.ensures
