use mathlib.Core.Path.{refl, ◌∙◌}
use Prim.Native.Nat.{◌+◌, ◌*◌, ◌≤◌, zero-le}
use native.Mathlib.Omega.{arith}
use borrow.Author.Rules.{rules}
use lib.ListN.{length}
use Rattle.law.proofs.Mix.{mix_none, turn_stores}
use Rattle.matrix_values.specs.Product.{product_at, row_reach}
use Rattle.matrix_values.proofs.inner.mul.Goals as goal

pub loop-r-init : goal.loop-r-init
unfolding product_at
loop-r-init c = (zero-le, c.wide-start.ensures.same, mix_none 2 _ (λ j. refl) _, refl)

pub row_sum-requires : goal.row_sum-requires
row_sum-requires c =
    let rows = c.requires.rows in
    rw (c.wide-end.ensures.same, c.loop-r.invariant.1) (record {
      a_le_b = rows.rise c.loop-r.r c.loop-r-test.true;
      row_reach = row_reach _ _ _ _ _ rows c.requires.n_in_bounds.0
          c.requires.n_in_bounds.1 c.loop-r.r c.loop-r-test.true;
    })

pub loop-r-preserved : goal.loop-r-preserved
unfolding product_at
loop-r-preserved c =
    let room : 2 * c.loop-r.r + 2 ≤ length c.args.out.now = omega (arith, c.loop-r-test.true, c.requires.n_in_bounds.2) in (
      search rules,
      c.wide-end.ensures.same,
      turn_stores 2 _ (λ j. refl) _ _ _ _ _ c.loop-r.invariant.2 c.set_vector.ensures
          (rw (c.row_sum.ensures, c.wide-end.ensures.same, c.loop-r.invariant.1)) room,
      c.set_vector.auto.s ∙ c.loop-r.invariant.3,
    )
