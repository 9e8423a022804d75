use Rattle.std.proofs.Common.{◌≡◌, ◌+◌, ◌-◌, ◌<◌, arith}
use Rattle.std.specs.Float.{nan}
use Rattle.law.specs.Store.{part_at, length_part}
use Rattle.law.proofs.Loop.{over_turn}
use Rattle.factor_row.specs.Row.{square_step}
use Rattle.factor_row.proofs.row.pivot.Goals as goal

pub loop-e-preserved : goal.loop-e-preserved
unfolding square_step
loop-e-preserved c =
    let k = c.loop-e.e-index in
    let less : k < c.args.b - c.args.a =
    omega (arith, c.loop-e-test.true, length_part c.args.a c.args.b c.args.values.now (omega arith) (omega arith)) in
    let next : c.args.a + (k + 1) ≡ c.args.a + k + 1 = omega arith in
    rw next (over_turn _ _ _ _ _ _ (omega arith) c.loop-e.invariant (rw (part_at c.args.a c.args.b c.args.values.now k nan less)))
