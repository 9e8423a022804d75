use borrow.Author.Rules.{rules}
use mathlib.Core.Path.{◌≡◌, sym, ap, ◌∙◌}
use Prim.Native.Nat.{ℕ, ◌+◌, ◌*◌, ◌-◌, zero-le}
use native.Mathlib.Omega.{arith}
use Rattle.plan_layout.specs.Leftmost.{first_even, first_odd}
use Rattle.plan_layout.specs.Starts.{start_none, start_two}
use Rattle.plan_layout.proofs.rows.envelope.Goals as goal

pub loop-i-init : goal.loop-i-init
loop-i-init c = (zero-le, sym (start_none _))

pub loop-i-preserved : goal.loop-i-preserved
loop-i-preserved c =
    let b = c.first_block-b.ensures in (
      search rules,
      ap (λ (k : ℕ). k + (4 * c.loop-i.i - 4 * c.first_block-b.result + 3)) c.loop-i.invariant.1
          ∙ sym (start_two _ c.loop-i.i c.first_block-b.result (first_even _ _ _ _ ∙ ap (λ (k : ℕ). 2 * k) (sym b.same)) (first_odd _ _ _ _
          ∙ ap (λ (k : ℕ). 2 * k) (sym b.same)) b.most),
    )

pub returns : goal.returns
returns c =
    let e : c.loop-i.i ≡ c.args.ordered.now.graph.n = omega arith in
    rw e at c.loop-i.invariant.1
