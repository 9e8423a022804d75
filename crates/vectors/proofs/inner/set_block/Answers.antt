use native.Mathlib.Numerals.{add-one, add-two, add-three}
use Rattle.law.specs.Store.{written}
use Rattle.vectors.proofs.inner.set_block.Goals as goal

pub returns : goal.returns
unfolding written
returns c = rw (add-one, add-two, add-three)
