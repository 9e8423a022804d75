use mathlib.Core.Path.{◌≡◌}
use Prim.Native.Nat.{◌≤◌}
use Rattle.law.specs.Every.{some}
use Rattle.step_entries.specs.Entries.{free}
use Rattle.step_entries.proofs.entries.Entries.any_free.Given as goal

abbrev pub invariant-loop-e : goal.invariant-loop-e
invariant-loop-e l = (l.e ≤ l.self.count) × (l.any ≡ some (free l.pinned l.self.particles.now) 0 l.e)
