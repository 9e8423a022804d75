use Rattle.vectors.proofs.Parts.{cleared}
use Rattle.vectors.proofs.inner.clear.Goals as goal

pub returns : goal.returns
returns c = rw (c.fill.ensures.after (λ y e. e)) (cleared _ _ c.requires)
