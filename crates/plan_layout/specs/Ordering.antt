-- WHERE THE ROWS OF AN ORDERED GRAPH START, as it is lent.
use Rattle.std.specs.Prelude.{ℕ, ◌<◌, ◌≡◌, length}
use Rattle.std.proofs.Common.{◌∙◌}
use mathlib.Core.List.{List}
use Rattle.matrix_shape.specs.Rows.{at}
use Rattle.order_definition.specs.Order.{row}
use Rattle.order_definition.specs.Keys.{Below}
use Rattle.order_definition.specs.Envelope.{first_block, first_col}
use Rattle.order_search.proofs.Exploring.{row_below}
use Rattle.plan_layout.specs.declared.ordered.Ordered.{Ordered}
use Rattle.plan_layout.specs.Laid.{Laid, laid_long, laid_walk, laid_started}
use Rattle.plan_layout.specs.Leftmost.{Started, along_row, row_walked}

-- the block column where a place's rows start, and the column where a row does
abbrev pub block_at : Ordered → ℕ → ℕ
block_at o i = first_block o.graph.row_offsets.now o.graph.cols.now o.order.now i

abbrev pub col_at : Ordered → ℕ → ℕ
col_at o r = first_col o.graph.row_offsets.now o.graph.cols.now o.order.now r

abbrev pub row_of : Ordered → ℕ → List ℕ
row_of o i = row o.graph.row_offsets.now o.graph.cols.now (at o.order.now i)

module _ (o : Ordered) where
  pub laid : Laid o.graph.n o.graph.row_offsets.now o.graph.cols.now o.order.now o.inverse.now
  laid = record { few = o.graph.few; pattern = o.graph.tight; order = o.listed; inverse = o.undone }

  pub inverse_long : length o.inverse.now ≡ o.graph.n
  inverse_long = laid_long _ _ _ _ _ laid

  module _ (i : ℕ) (h : i < o.graph.n) where
    pub row_within : Below (length o.inverse.now) (row_of o i)
    row_within = rw inverse_long (row_below o.graph (at o.order.now i) (o.listed.below i h))

    -- the walk along the row finds the definition's block column
    pub walk_started : (r : ℕ) → r ≡ along_row (at o.inverse.now) i (row_of o i) → Started (block_at o i) i r
    walk_started r e =
        let w = laid_walk _ _ _ _ _ laid i h in
        laid_started _ _ _ _ _ laid i r h (e ∙ row_walked _ _ (at o.inverse.now) (at o.order.now i) i w.rise w.room)
