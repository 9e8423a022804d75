use mathlib.Core.Path.{◌≡◌}
use Prim.Native.Nat.{◌-◌, ◌≤◌}
use lib.ListN.{length}
use Rattle.law.specs.Loop.{over}
use Rattle.flat_runs.specs.Run.{take_step}
use Rattle.flat_runs.proofs.run.take.Given as goal

abbrev pub invariant-loop-c : goal.invariant-loop-c
invariant-loop-c l = (l.c ≤ l.m) × (length l.y ≡ length l.initial.y) × (l.y ≡ over (take_step l.u l.a l.b l.t) 0 l.c l.initial.y)

abbrev pub decreases-loop-c : goal.decreases-loop-c
decreases-loop-c l = l.m - l.c
