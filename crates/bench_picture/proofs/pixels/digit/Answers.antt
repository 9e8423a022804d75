use Rattle.bench_picture.specs.Pixels.{digit}
use Rattle.bench_picture.proofs.pixels.digit.Goals as goal

pub returns-then-black : goal.returns-then-black
unfolding digit
returns-then-black c = rw c.if-black.true

pub returns : goal.returns
unfolding digit
returns c = rw c.if-black.false
