use borrow.Author.Tests.{lt-ltb, le-ltb, le-leb, lt-leb}
use Rattle.matrix_shape.specs.Formed.{home_ok}
use Rattle.matrix_walk.proofs.rows.home_ok.Goals as goal

pub returns-then-k-a : goal.returns-then-k-a
unfolding home_ok
returns-then-k-a c = rw (lt-leb _ _ c.if-k-a.true)

pub returns-then-b-k : goal.returns-then-b-k
unfolding home_ok
returns-then-b-k c = rw (le-leb _ _ c.if-k-a.false, le-ltb _ _ c.if-b-k.true)

pub returns : goal.returns
unfolding home_ok
returns c =
    rw (c.wide.ensures.same, le-leb _ _ c.if-k-a.false, lt-ltb _ _ c.if-b-k.false)
