use native.Mathlib.Omega.{arith}
use mathlib.Core.Path.{ap}
use mathlib.Core.Bool.{not}
use mathlib.Core.Path.{◌∙◌}
use Rattle.law.specs.Truth.{passed, refused}
use Rattle.matrix_shape.specs.Formed.{well_formed, starts_is}
use Rattle.matrix_shape.specs.Phases.{spread_of}
use Rattle.matrix_walk.proofs.Cursors.{walk_is}
use Rattle.matrix_test.proofs.formed.well_formed.Goals as goal

pub returns-then-not-starts_ok : goal.returns-then-not-starts_ok
unfolding well_formed
returns-then-not-starts_ok c = rw (refused _ _ c.starts_ok.ensures (ap not c.if-not-starts_ok.true))

pub walk_in-requires : goal.walk_in-requires
walk_in-requires c =
    (c.if-pattern-le64.true, omega arith, spread_of _ _ _ _ _ c.requires.1 (passed _ _ c.starts_ok.ensures (ap not c.if-not-starts_ok.false)))

pub returns-then-pattern-le64 : goal.returns-then-pattern-le64
returns-then-pattern-le64 c =
    let t = passed _ _ c.starts_ok.ensures (ap not c.if-not-starts_ok.false) in
    (rw (starts_is _ _ _ t).1.1 at c.walk_in.ensures) ∙ walk_is _ _ _ _ _ t

pub walk_in-requires-else-pattern-le64 : goal.walk_in-requires-else-pattern-le64
walk_in-requires-else-pattern-le64 c =
    (c.requires.0, omega arith, spread_of _ _ _ _ _ c.requires.1 (passed _ _ c.starts_ok.ensures (ap not c.if-not-starts_ok.false)))

pub returns-else-pattern-le64 : goal.returns-else-pattern-le64
returns-else-pattern-le64 c =
    let t = passed _ _ c.starts_ok.ensures (ap not c.if-not-starts_ok.false) in
    (rw (starts_is _ _ _ t).1.1 at c.walk_in-else-pattern-le64.ensures) ∙ walk_is _ _ _ _ _ t
