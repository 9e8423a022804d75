-- What the whole ordering hands on.
use Prim.Native.Nat.{ℕ, suc, ◌<◌}
use native.Mathlib.Omega.{arith}
use native.Mathlib.Numerals.{add-one}
use mathlib.Core.Path.{◌≡◌, ap, ◌∙◌}
use mathlib.Core.List.{List, reverse}
use lib.ListN.{get_or}
use Rattle.order_definition.specs.Order.{order_of}
use Rattle.order_definition.specs.Keys.{Rising}
use Rattle.order_definition.specs.Searches.{TableOf, degrees_to}
use Rattle.order_definition.proofs.Degrees.{degrees_table}
use Rattle.order_search.specs.declared.graph.Graph.{Graph}
use Rattle.order_make.specs.Placing.{placed_to}

module _ (g : Graph) where
  pub rows_rise : Rising g.row_offsets.now g.n
  rows_rise = record {
    rises = λ v lt. let s = g.tight.diagonal v lt in let end : s.0 < get_or g.row_offsets.now (suc v) 0 = rw (add-one v) at s.1.0.1 in omega (arith, s.1.0.0);
  }

  pub table_is : (degrees : List ℕ) → degrees ≡ degrees_to g.row_offsets.now g.n → TableOf g.row_offsets.now g.cols.now g.n degrees
  table_is degrees e = degrees_table g.n _ _ degrees g.tight e

  pub order_is : (placed out : List ℕ) → placed ≡ placed_to g g.n → out ≡ reverse placed → out ≡ order_of g.n g.row_offsets.now g.cols.now
  unfolding order_of
  order_is placed out p e = e ∙ ap (λ (l : List ℕ). reverse l) p
