use native.Mathlib.Numerals.{add-one}
use Rattle.law.specs.Store.{written}
use Rattle.vectors.proofs.inner.set_vector.Goals as goal

pub returns : goal.returns
unfolding written
returns c = rw add-one
