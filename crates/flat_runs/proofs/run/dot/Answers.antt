use mathlib.Core.Path.{◌≡◌}
use lib.ListN.{length}
use Prim.Native.Nat.{◌+◌, ◌<◌, zero-le}
use native.Mathlib.Omega.{arith}
use Rattle.std.specs.Float.{nan}
use Rattle.std.proofs.Common.{length-append}
use Rattle.std.proofs.lemmas.Slice.Zip.{zip_turn, zip_end}
use Rattle.law.specs.Store.{part, part_at, length_part}
use Rattle.law.proofs.Loop.{over_none, over_turn}
use Rattle.flat_runs.specs.Run.{dot_run}
use Rattle.flat_runs.proofs.run.dot.Goals as goal

pub loop-x-init : goal.loop-x-init
loop-x-init c = over_none _ 0 _

pub loop-x-preserved : goal.loop-x-preserved
loop-x-preserved c =
    let k = length c.loop-x.yielded in
    let left = part c.args.a (c.args.a + c.args.m) c.args.u.now in
    let right = part c.args.b (c.args.b + c.args.m) c.args.v.now in
    let at = zip_turn left right c.loop-x.yielded _ _ c.next.new.self _ (cc) (cc) c.loop-x.yielded_by _ c.in-Some.is c.next.ensures.steps in
    let less : k < c.args.m = omega (arith, at.0, length_part c.args.a (c.args.a + c.args.m) c.args.u.now (omega arith) (omega arith)) in
    rw length-append (over_turn _ 0 _ _ _ _ zero-le c.loop-x.invariant
    (rw (at.2 nan, at.3 nan, part_at c.args.a (c.args.a + c.args.m) c.args.u.now k nan (omega arith), part_at c.args.b (c.args.b + c.args.m) c.args.v.now k nan (omega arith))))

pub returns : goal.returns
unfolding dot_run
returns c =
    let left = part c.args.a (c.args.a + c.args.m) c.args.u.now in
    let right = part c.args.b (c.args.b + c.args.m) c.args.v.now in
    let e = zip_end left right c.loop-x.yielded _ _ c.next.new.self _ (cc) (cc) c.loop-x.yielded_by c.in-None.is c.next.ensures.steps in
    let all : length c.loop-x.yielded ≡ c.args.m = omega (arith, e, length_part c.args.a (c.args.a + c.args.m) c.args.u.now (omega arith) (omega arith), length_part c.args.b (c.args.b + c.args.m) c.args.v.now (omega arith) (omega arith)) in
    rw all at c.loop-x.invariant
