use native.Mathlib.Omega.{arith}
use Rattle.bench_picture.specs.Pixels.{moved, after}
use Rattle.bench_picture.proofs.pixels.ordered.Goals as goal

pub has-stands-requires : goal.has-stands-requires
has-stands-requires c =
    rw c.wide-row.ensures.same (c.requires.0.line _ (c.requires.0.particle _ (omega (arith, c.requires.1.0))))

pub returns : goal.returns
unfolding after moved
returns c =
    rw (c.hatch.ensures, c.wide.ensures.same, c.has-stands.ensures, c.wide-row.ensures.same)
