use native.Mathlib.Omega.{arith}
use Rattle.matrix_shape.specs.Rows.{at}
use Rattle.factor_passes.proofs.Held.{held_of}
use Rattle.factor_substitution.specs.Calls.{solve_calls}
use Rattle.factor_substitution.proofs.inner.solve.Goals as goal

pub forward-requires : goal.forward-requires
forward-requires c =
    (held_of c.requires.plan c.requires.n_in_bounds.0, omega (arith, c.gather.auto.out, c.requires.x_len.1))

pub backward-requires : goal.backward-requires
backward-requires c =
    (held_of c.requires.plan c.requires.n_in_bounds.0, omega (arith, c.forward.auto.y, c.gather.auto.out, c.requires.x_len.1))

pub returns : goal.returns
returns c =
    solve_calls c.args.n (at c.args.plan.now.perm.now) (at c.args.plan.now.inv_perm.now) (at c.args.plan.now.first.now) (at c.args.plan.now.row_start.now)
    c.args.values.now c.args.b.now _ _ _ _ _ _ _
    c.requires.x_len.0 c.requires.x_len.1 (omega (
      arith,
      c.backward.auto.y,
      c.forward.auto.y,
      c.gather.auto.out,
      c.requires.x_len.1,
    ))
    c.gather.ensures c.forward.ensures c.backward.ensures c.gather-2.ensures c.clear.ensures
