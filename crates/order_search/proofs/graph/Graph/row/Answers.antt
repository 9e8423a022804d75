use Prim.Native.Nat.{ℕ, suc, ◌+◌, ◌-◌}
use native.Mathlib.Numerals.{add-one}
use native.Mathlib.Omega.{arith}
use mathlib.Core.Path.{◌≡◌, sym, ap, ◌∙◌}
use lib.ListN.{get_or, take, drop}
use Rattle.std.proofs.lemmas.List.{drop-take}
use Rattle.order_definition.proofs.Rows.{row_fits}
use Rattle.order_search.proofs.graph.Graph.row.Goals as goal

pub slice_bounds-result-end : goal.slice_bounds-result-end
slice_bounds-result-end c =
    let g = c.args.self.now in
    rw (c.wide-to.ensures.same, add-one c.args.v) (row_fits g.n _ _ g.tight c.args.v c.requires)

pub returns : goal.returns
returns c =
    let g = c.args.self.now in
    let from = get_or g.row_offsets.now c.args.v 0 in
    let to = get_or g.row_offsets.now (suc c.args.v) 0 in
    let e : from + (to - from) ≡ to = omega (arith, g.tight.rise c.args.v c.requires) in
    rw (c.wide-from.ensures.same, c.wide-to.ensures.same, add-one c.args.v)
    (sym (drop-take from (to - from) g.cols.now) ∙ ap (λ (k : ℕ). drop from (take k g.cols.now)) e)
