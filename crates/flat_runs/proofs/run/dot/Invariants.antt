use mathlib.Core.Path.{◌≡◌}
use lib.ListN.{length}
use Rattle.law.specs.Loop.{over}
use Rattle.plane.specs.Plane.{zero32}
use Rattle.flat_runs.specs.Run.{run_step}
use Rattle.flat_runs.proofs.run.dot.Given as goal

abbrev pub invariant-loop-x : goal.invariant-loop-x
invariant-loop-x l = l.sum ≡ over (run_step l.u l.a l.v l.b) 0 (length l.yielded) zero32
