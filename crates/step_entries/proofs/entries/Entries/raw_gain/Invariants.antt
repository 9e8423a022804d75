use mathlib.Core.Path.{◌≡◌}
use Prim.Native.Nat.{◌≤◌}
use Rattle.law.specs.Loop.{over}
use Rattle.plane.specs.Plane.{zero32}
use Rattle.step_entries.specs.Entries.{gain_step}
use Rattle.step_entries.proofs.entries.Entries.raw_gain.Given as goal

abbrev pub invariant-loop-e : goal.invariant-loop-e
invariant-loop-e l = (l.e ≤ l.self.count) × (l.sum ≡ over (gain_step l.pinned l.self.particles.now l.self.gradients.now l.out) 0 l.e zero32)
