use mathlib.Core.Path.{ap, ◌∙◌}
use Prim.Native.Nat.{ℕ}
use native.Mathlib.Omega.{arith}
use lib.ListN.{replicate}
use Rattle.matrix_build.specs.Built.{given, unfilled, built}
use Rattle.matrix_build.proofs.inner.build.Goals as goal

pub fill_rows-k-requires : goal.fill_rows-k-requires
fill_rows-k-requires c =
    let l = c.list_rows in
    let z = c.clear in (record {
      given = given _ _ _ _ _ _ _ c.requires;
      unfilled = unfilled _ _ _ _ _ _ _ c.requires _ _ _ _ (omega (arith, z.auto, l.auto)) (omega (arith, z.auto, l.auto))
          (omega (arith, z.auto, l.auto)) (omega (arith, z.auto, l.auto)) l.ensures;
    })

pub returns : goal.returns
returns c =
    let l = c.list_rows in
    let z = c.clear in
    let f = c.fill_rows-k in
    let y = c.clear-2 in
    built _ _ _ _ _ _ _ c.requires _ _ _ _ _ _ (z.ensures ∙ ap (λ (m : ℕ). replicate m 0) l.auto.ways) f.ensures
    (y.ensures ∙ ap (λ (m : ℕ). replicate m 0) l.auto.links)
