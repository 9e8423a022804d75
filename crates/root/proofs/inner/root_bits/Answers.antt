use mathlib.Core.Path.{sym, ap, ◌∙◌, subst}
use Prim.Native.Nat.{ℕ, ◌+◌, ◌*◌, ◌/◌, ◌<◌}
use native.Mathlib.Omega.{arith}
use Rattle.root.specs.Whole.{nearest_root}
use Rattle.root.proofs.Pattern.{nearest_digits, root_pattern}
use Rattle.root.proofs.inner.root_bits.Goals as goal

-- the number that the three calls make has 24 digits
digits : (c : goal.After-nearest_root-r) → c.nearest_root-r.result < 16777216
digits c =
    let s = c.split-p in
    let pre = c.requires in
    subst (λ (x : ℕ). x < 16777216) (sym (c.nearest_root-r.ensures ∙ ap nearest_root c.evened.ensures))
    (nearest_digits c.args.b s.result.digits s.result.power pre.0 pre.1 s.ensures).1

pub overflow_cast-result : goal.overflow_cast-result
overflow_cast-result c = omega (arith, digits c)

pub overflow_add-result-2 : goal.overflow_add-result-2
overflow_add-result-2 c = omega (arith, digits c, c.split-p.ensures.bound)

pub returns : goal.returns
returns c =
    let s = c.split-p in
    let pre = c.requires in
    ap (λ (x : ℕ). (s.result.power + 102) / 2 * 8388608 + x) (c.nearest_root-r.ensures ∙ ap nearest_root c.evened.ensures)
    ∙ root_pattern c.args.b s.result.digits s.result.power pre.0 pre.1 s.ensures
