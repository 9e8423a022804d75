use mathlib.Core.Path.{◌∙◌}
use native.Mathlib.Omega.{arith}
use Rattle.step_solve.specs.Stepping.{ready_for}
use Rattle.step_response.specs.Responding.{whole_is, made_of}
use Rattle.step_response.proofs.front.solve.Goals as goal

pub clear-requires : goal.clear-requires
clear-requires c = c.requires.solvable.iterable.b

pub load-requires : goal.load-requires
load-requires c =
    let p = c.requires in
    (record { entries = p.entered; n_in_bounds = omega (arith, p.solvable.iterable.b, c.clear.auto.x) })

pub route-how-requires : goal.route-how-requires
route-how-requires c =
    ready_for _ _ (c.load.auto.rhs ∙ c.clear.auto.x) c.requires.solvable

pub raw_gain-raw-requires : goal.raw_gain-raw-requires
raw_gain-raw-requires c =
    let p = c.requires in
    (record { entries = p.entered; n_in_bounds = omega (arith, p.solvable.iterable.x, c.route-how.auto.x) })

pub clear-requires-2 : goal.clear-requires-2
clear-requires-2 c =
    omega (
      arith,
      c.requires.solvable.iterable.b,
      c.clear.auto.x,
      c.load.auto.rhs,
    )

pub returns : goal.returns
returns c =
    rw (c.answer.ensures, c.gain_of.ensures)
    (whole_is _ _ _ _ _ _ _ _ _ _ _ c.requires (made_of _ _ _ c.clear.ensures c.load.ensures)
    c.route-how.ensures c.raw_gain-raw.ensures c.clear-2.ensures)
