use Prim.Native.Nat.{◌+◌, zero-le}
use Rattle.std.proofs.Common.{◌≡◌, arith}
use Rattle.law.proofs.Loop.{over_turn, over_stays}
use Rattle.factor_make.specs.Factor.{row_step, factor_of}
use Rattle.factor_make.proofs.inner.factorize.Goals as goal
use borrow.Author.Rules.{rules}

pub returns-in_err-row : goal.returns-in_err-row
unfolding factor_of row_step
returns-in_err-row c =
    let r : c.from_residual.result ≡ c.row.result = search rules in
    over_stays _ 0 (c.loop-i.i + 1) _ _ _ (over_turn _ 0 _ _ _ _ zero-le c.loop-i.invariant (rw r c.row.ensures)) (λ j. rw (r, c.in_err-row.was))
    zero-le (omega arith)
