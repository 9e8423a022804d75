use mathlib.Core.Path.{sym, ap, ◌∙◌}
use Rattle.order_definition.specs.Order.{numbers}
use Rattle.order_start.proofs.Settling.{counted_below, least_some, least_is, least_free_at}
use Rattle.order_start.proofs.start.first_free.Goals as goal

pub least_where-requires-clause-below : goal.least_where-requires-clause-below
least_where-requires-clause-below c =
    let r = c.requires in
    counted_below c.args.ranked.now.graph _ c.args.ranked.now.degrees.now _ r.mark_len c.args.ranked.now.table
    (c.count_up.ensures ∙ ap numbers (r.queue_len ∙ sym r.mark_len)) r.some_free

pub unwrap-requires : goal.unwrap-requires
unwrap-requires c =
    let r = c.requires in
    rw c.least_where.ensures (least_some c.args.ranked.now.graph _ c.args.ranked.now.degrees.now _ r.mark_len c.args.ranked.now.table
    (c.count_up.ensures ∙ ap numbers (r.queue_len ∙ sym r.mark_len)) r.some_free)

pub returns : goal.returns
returns c =
    let r = c.requires in
    let e = c.count_up.ensures ∙ ap numbers (r.queue_len ∙ sym r.mark_len) in
    let is = sym c.least_where.ensures ∙ c.unwrap.ensures in
    record {
      free = rw c.wide.ensures.same (least_free_at c.args.ranked.now.graph _ c.args.ranked.now.degrees.now _ r.mark_len c.args.ranked.now.table e r.some_free _ is);
      value = c.wide.ensures.same
          ∙ least_is c.args.ranked.now.graph _ c.args.ranked.now.degrees.now _ r.mark_len c.args.ranked.now.table e r.some_free _ is;
    }
