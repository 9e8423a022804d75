use Prim.Native.Nat.{ℕ}
use native.Mathlib.Numerals.{add-one}
use native.Mathlib.Omega.{arith}
use mathlib.Core.List.{List, ◌++◌, append-nil}
use mathlib.Core.Path.{◌≡◌, ap, ◌∙◌}
use lib.ListN.{length, take, drop}
use lib.Seq.{drop-length, take_all}
use Rattle.order_definition.proofs.Filling.{store_copy}
use Rattle.plan_layout.proofs.tables.copy.Goals as goal

pub loop-i-preserved : goal.loop-i-preserved
loop-i-preserved c = rw (c.loop-i.invariant, add-one c.loop-i.i) (store_copy c.args.from.now c.args.into.now c.loop-i.i (omega arith) c.requires)

pub returns : goal.returns
returns c =
    let s = c.args.from.now in
    let b = c.args.into.now in
    let end : c.loop-i.i ≡ length b = omega (arith, c.requires) in
    c.loop-i.invariant ∙ ap (λ (k : ℕ). take k s ++ drop k b) end ∙ ap (λ (t : List ℕ). take (length b) s ++ t) (drop-length b)
    ∙ append-nil (take (length b) s) ∙ take_all (length b) s (omega (arith, c.requires))
