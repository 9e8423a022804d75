use mathlib.Core.Path.{◌≡◌, refl, ◌∙◌}
use lib.ListN.{get_or}
use native.Mathlib.Omega.{arith}
use Rattle.std.proofs.Common.{◌<◌, get_or-take, length-take-le}
use Rattle.law.proofs.Mix.{mix_none, turn_stores}
use Rattle.gradient_definition.specs.Inverse.{inverse_at}
use Rattle.gradient_preconditioner.proofs.inner.update_preconditioner.Goals as goal

pub loop-r-init : goal.loop-r-init
unfolding inverse_at
loop-r-init c = mix_none 4 _ (λ j. refl) _

pub loop-r-preserved : goal.loop-r-preserved
unfolding inverse_at
loop-r-preserved c =
    let rows = length-take-le _ _ c.requires.slots.marks in
    let below : c.loop-r.r < c.args.pattern.now.n = omega arith in
    let slot : c.wide.result ≡ get_or c.args.pattern.now.diagonal.now c.loop-r.r 0 = c.wide.ensures.same ∙ get_or-take _ _ _ _ below in
    turn_stores 4 _ (λ j. refl) _ _ _ _ _ c.loop-r.invariant c.set_block.ensures
    (rw (c.inverse_or_identity.ensures, c.block_at.ensures, slot)) (omega arith)
