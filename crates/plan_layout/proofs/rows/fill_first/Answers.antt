use mathlib.Core.Path.{◌≡◌, ap, ◌∙◌}
use Prim.Native.Nat.{ℕ, ◌*◌}
use native.Mathlib.Omega.{arith}
use Rattle.law.proofs.Gather.{length_table}
use Rattle.law.specs.Store.{written_whole}
use Rattle.law.proofs.Store.{write_none}
use Rattle.plan_layout.specs.Laid.{firsts_put}
use Rattle.plan_layout.specs.Ordering.{col_at}
use Rattle.plan_layout.proofs.rows.fill_first.Goals as goal

pub loop-i-init : goal.loop-i-init
loop-i-init c = write_none _ _ _ _

pub loop-i-preserved : goal.loop-i-preserved
loop-i-preserved c = firsts_put _ _ _ _ _ c.loop-i.i _ c.loop-i.invariant (ap (λ (k : ℕ). 2 * k) c.first_block.ensures.same)

pub returns : goal.returns
returns c =
    let e : c.loop-i.i ≡ c.args.ordered.now.graph.n = omega arith in
    let long = length_table (col_at c.args.ordered.now) (2 * c.loop-i.i) in
    rw e at (c.loop-i.invariant ∙ written_whole _ _ (omega (arith, c.requires)))
