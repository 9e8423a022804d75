use Prim.Native.Nat.{◌<◌}
use native.Mathlib.Omega.{arith}
use lib.ListN.{length}
use Rattle.plan_layout.specs.EachOnce.{place_put, places_are}
use Rattle.plan_layout.proofs.tables.invert.Goals as goal

pub loop-i-preserved : goal.loop-i-preserved
loop-i-preserved c =
    let h : c.loop-i.i < length c.args.inverse.now = omega (arith, c.requires.0.long) in
    rw c.wide.ensures.same (place_put _ _ c.requires.0 c.loop-i.i h c.loop-i.inverse c.loop-i.auto.inverse c.loop-i.invariant)

pub returns : goal.returns
returns c = places_are _ _ c.requires.0 c.loop-i.inverse c.loop-i.auto.inverse (λ j h. c.loop-i.invariant j (omega (arith, c.requires.0.long)))
