use mathlib.Core.Path.{◌≡◌}
use Prim.Native.Nat.{◌≤◌}
use lib.ListN.{length}
use Rattle.law.specs.Loop.{over}
use Rattle.step_entries.specs.Entries.{load_step}
use Rattle.step_entries.proofs.entries.Entries.load.Given as goal

abbrev pub invariant-loop-e : goal.invariant-loop-e
invariant-loop-e l = (l.e ≤ l.self.count) × (l.rhs ≡ over (load_step l.pinned l.self.particles.now l.self.gradients.now) 0 l.e l.initial.rhs)
    × (length l.rhs ≡ length l.initial.rhs)
