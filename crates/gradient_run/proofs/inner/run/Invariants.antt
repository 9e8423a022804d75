-- The invariant: what is left of the run, from where the loop stands, is the whole run.
use mathlib.Core.Path.{◌≡◌}
use Prim.Native.Nat.{◌-◌}
use Rattle.gradient_definition.specs.Vectors.{product, preconditioned}
use Rattle.gradient_definition.specs.Solve.{state, run}
use Rattle.gradient_run.proofs.inner.run.Given as goal

abbrev pub invariant-loop-count : goal.invariant-loop-count
invariant-loop-count l =
    let p = l.pattern in
    let A = product p.n p.row_offsets.now p.cols.now l.blocks in
    let P = preconditioned p.n l.preconditioner in
    run p.n A P l.threshold (l.limit - l.count) l.count l.norm (state l.x l.residual l.direction l.rz)
    ≡ run p.n A P l.threshold l.limit 0 l.norm0 (state l.initial.x l.initial.residual l.initial.direction l.rz0)
