use borrow.Author.Tests.{lt-ltb, le-ltb}
use Rattle.matrix_walk.specs.Cursors.{meet_ok}
use Rattle.matrix_walk.proofs.rows.meet_ok.Goals as goal

pub returns-then-m-slot : goal.returns-then-m-slot
unfolding meet_ok
returns-then-m-slot c = rw (le-ltb _ _ c.if-m-slot.true)

pub returns : goal.returns
unfolding meet_ok
returns c = rw (c.wide.ensures.same, lt-ltb _ _ c.if-m-slot.false)
