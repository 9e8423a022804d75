use borrow.Author.Rules.{rules}
use mathlib.Core.Path.{◌≡◌}
use Prim.Native.Nat.{zero-le}
use native.Mathlib.Omega.{arith}
use Rattle.law.proofs.Every.{every_none, every_more}
use Rattle.matrix_pairs.proofs.given.pairs_ok.Goals as goal

pub loop-i-init : goal.loop-i-init
loop-i-init c = (zero-le, every_none _ 0)

pub loop-i-preserved : goal.loop-i-preserved
loop-i-preserved c =
    (search rules, rw (c.pair_ok-ok.ensures, c.loop-i.invariant.1) (every_more _ 0 _ zero-le))

pub returns : goal.returns
returns c =
    let e : c.loop-i.i ≡ c.args.count = omega arith in
    rw e at c.loop-i.invariant.1
