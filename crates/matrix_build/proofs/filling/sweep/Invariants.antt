use Prim.Native.Nat.{◌-◌}
use Rattle.matrix_lists.specs.Chain.{front_of}
use Rattle.matrix_build.specs.Swept.{Sweeping}
use Rattle.matrix_build.proofs.filling.sweep.Given as goal

abbrev pub invariant-loop-c : goal.invariant-loop-c
invariant-loop-c l =
    Sweeping l.pairs.n l.pairs.count l.pairs.list.now l.links l.r l.from l.to l.at l.initial.cols l.rest l.slot l.cols (front_of l.pairs.n l.pairs.list.now l.rest)

abbrev pub decreases-loop-c : goal.decreases-loop-c
decreases-loop-c l = l.to - front_of l.pairs.n l.pairs.list.now l.rest
