use native.Mathlib.Omega.{arith}
use Rattle.std.proofs.Common.{zero-le, refl, ◌∙◌}
use Rattle.vectors.specs.Whole.{front_none, front_turn}
use Rattle.vectors.proofs.Parts.{of_parts}
use Rattle.vectors.proofs.inner.each.Goals as goal

pub loop-k-init : goal.loop-k-init
loop-k-init g c = (zero-le, refl, λ f long h. front_none f long _ _)

pub loop-k-preserved : goal.loop-k-preserved
loop-k-preserved g c = (
  omega arith,
  c.set_vector.auto.s ∙ c.loop-k.invariant.1,
  λ f long h.
      front_turn f long _ _ _ _ _ _ (c.loop-k.invariant.2 f long h) c.loop-k-test.true c.requires.room c.set_vector.ensures c.set_vector.auto.s
      (λ e. of_parts _ _ (h _ _ c.loop-k-test.true (rw (c.vector_at.ensures ∙ e) at c.part-v.ensures)) (long _)),
)
