use Prim.Native.Nat.{ℕ, ◌-◌}
use native.Mathlib.Numerals.{add-one}
use native.Mathlib.Omega.{arith}
use mathlib.Core.List.{List, ◌++◌, append-nil, reverse}
use mathlib.Core.Path.{◌≡◌, sym, ap, ◌∙◌}
use lib.ListN.{length, get_or, take, drop, set, length-set, length-reverse}
use lib.Seq.{drop-length, take_all}
use Rattle.order_definition.proofs.At.{at_get_or, at_reverse, get_d_at}
use Rattle.order_definition.proofs.Filling.{store_copy}
use Rattle.order_tables.proofs.tables.reverse_into.Goals as goal

pub loop-i-preserved : goal.loop-i-preserved
loop-i-preserved c =
    let s = c.args.from.now in
    let b = c.args.into.now in
    let i = c.loop-i.i in
    let lr = length-reverse s in
    let x : get_or s (length s - 1 - i) 0 ≡ get_or (reverse s) i 0 =
    sym (at_get_or 0 (at_reverse (get_d_at s (length s - 1 - i) 0 (omega (arith, c.requires))) i (omega (arith, c.requires)))) in (
      omega arith,
      c.loop-i.invariant.1,
      simp length-set c.loop-i.invariant.2,
      rw (c.loop-i.invariant.3, add-one i) (
          ap (λ (k : ℕ). set (take i (reverse s) ++ drop i b) i k) x
          ∙ store_copy (reverse s) b i (omega arith) (lr ∙ c.requires)),
    )

pub returns : goal.returns
returns c =
    let r = reverse c.args.from.now in
    let b = c.args.into.now in
    let end : c.loop-i.i ≡ length b = omega arith in
    c.loop-i.invariant.3 ∙ ap (λ (k : ℕ). take k r ++ drop k b) end ∙ ap (λ (t : List ℕ). take (length b) r ++ t) (drop-length b)
    ∙ append-nil (take (length b) r) ∙ take_all (length b) r (omega (arith, length-reverse c.args.from.now, c.requires))
