use mathlib.Core.Path.{refl}
use Rattle.factor_substitution.proofs.inner.gather.Goals as goal

pub returns : goal.returns
returns c = c.each.ensures _ (λ j. refl) (λ k v h p. p.1)
