use mathlib.Core.Path.{◌≡◌}
use Rattle.law.specs.Mix.{mix}
use Rattle.gradient_definition.specs.Inverse.{inverse_at}
use Rattle.gradient_preconditioner.proofs.inner.update_preconditioner.Given as goal

abbrev pub invariant-loop-r : goal.invariant-loop-r
invariant-loop-r l = l.preconditioner ≡ mix 4 l.r (inverse_at l.pattern.diagonal.now l.blocks) l.initial.preconditioner
