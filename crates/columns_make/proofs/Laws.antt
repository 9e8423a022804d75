-- WHAT COMPUTING LEAVES, over plain variables: the work lists are zeroed, then the particles.
use mathlib.Core.Path.{◌≡◌, ap, ◌∙◌}
use mathlib.Core.List.{List}
use lib.Ieee.{Float}
use Rattle.law.specs.Loop.{over}
use Rattle.law.proofs.Loop.{over_same}
use Rattle.step_tally.specs.declared.Tally.{Tally}
use Rattle.step_tally.specs.Runs.{fresh}
use Rattle.step_routes.specs.Dense.{cleared, swept}
use Rattle.columns_axes.proofs.Laws.{onward, same_particle}
use Rattle.std.specs.Prelude.{Ok}
use Rattle.columns_make.specs.declared.Ended.{Ended}
use Rattle.columns_make.specs.Making.{In, left, held, dense, particle_made, begun, made, ended_of, finished, work, Ready}

module _ (i : In) (y : Ready i) where
  pub work_is : (b : Ended) (h s r d a z : List Float) (t : Tally) (c' h' s' r' d' a' z' : List Float) (lent own : Tally) → h ≡ cleared i.n i.rhs
      → s ≡ swept (dense i) i.n i.scratch
      → (r ≡ cleared i.n i.residual) × (d ≡ cleared i.n i.direction) × (a ≡ cleared i.n i.a_direction) × (z ≡ cleared i.n i.z)
      → t ≡ fresh
      → held c' h' s' r' d' a' z' lent own ≡ over (particle_made (onward i y i.columns h s r d a z i.tally)) 0 i.n
      (held i.columns h s r d a z i.tally t)
      → b ≡ ended_of own → left (Ok b) c' h' s' r' d' a' z' lent ≡ work i
  unfolding work made begun
  work_is b h s r d a z t c' h' s' r' d' a' z' lent own eh es er et q eb =
      rw eb (ap finished (q ∙ over_same (particle_made (onward i y i.columns h s r d a z i.tally)) (particle_made i) 0 i.n _
      (λ p x _ _. same_particle i y i.columns h s r d a z i.tally p x) ∙ ap (over (particle_made i) 0 i.n) (rw (eh, es, er.0, er.1, er.2, er.3, et))))
