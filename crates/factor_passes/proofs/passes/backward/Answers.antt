use Prim.Native.Nat.{◌+◌, ◌-◌, zero-le}
use Rattle.std.proofs.Common.{◌≡◌, arith}
use Rattle.law.proofs.Loop.{over_turn}
use Rattle.factor_passes.proofs.passes.backward.Goals as goal

pub loop-i-preserved : goal.loop-i-preserved
loop-i-preserved c =
    let turns : c.args.m - (c.loop-i.i - 1) ≡ c.args.m - c.loop-i.i + 1 = omega arith in
    let row : c.args.m - (c.args.m - c.loop-i.i + 1) ≡ c.loop-i.i - 1 = omega arith in
    rw turns (over_turn _ 0 _ _ _ _ zero-le c.loop-i.invariant (rw row c.back.ensures))
