use mathlib.Core.Path.{refl}
use Rattle.bench_picture.specs.Pixels.{hatched}
use Rattle.bench_picture.proofs.pixels.hatch.Goals as goal

pub returns : goal.returns
unfolding hatched
returns c = refl
