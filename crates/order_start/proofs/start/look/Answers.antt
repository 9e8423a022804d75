use native.Mathlib.Omega.{arith}
use Prim.Native.Nat.{ℕ}
use lib.ListN.{get_or}
use mathlib.Core.Path.{refl, sym, ap, ◌∙◌}
use Rattle.order_start.proofs.Looking.{some, last_below, part_below, far_some, far_is}
use Rattle.order_start.proofs.Settling.{far_free_at}
use Rattle.order_start.proofs.start.look.Goals as goal

pub overflow_sub-len : goal.overflow_sub-len
overflow_sub-len c = some c.args.ranked.now.graph _ _ c.requires.lists.marks c.requires.free_at _ _ _ c.explore-len.ensures

pub bounds-level-last : goal.bounds-level-last
bounds-level-last c =
    let last = last_below c.args.ranked.now.graph _ _ c.requires.lists.marks c.requires.free_at _ _ _ c.explore-len.ensures in
    omega (arith, c.wide-last.ensures.same, c.explore-len.auto.level, c.requires.lists.levels)

pub least_where-requires-clause-below : goal.least_where-requires-clause-below
least_where-requires-clause-below c =
    rw c.args.ranked.now.table.long (part_below c.args.ranked.now.graph _ _ c.requires.lists.marks c.requires.free_at _ _ _ c.explore-len.ensures)

pub unwrap-far-requires : goal.unwrap-far-requires
unwrap-far-requires c =
    rw (c.least_where.ensures, c.wide-last.ensures.same) (far_some c.args.ranked.now.graph _ _ c.requires.lists.marks c.requires.free_at _ _ _ c.explore-len.ensures
    c.args.ranked.now.degrees.now c.args.ranked.now.table _ refl)

pub returns-clause-far_value : goal.returns-clause-far_value
returns-clause-far_value c =
    c.wide.ensures.same
    ∙ far_is c.args.ranked.now.graph _ _ c.requires.lists.marks c.requires.free_at _ _ _ c.explore-len.ensures c.args.ranked.now.degrees.now
    c.args.ranked.now.table _ (ap (λ (v : ℕ). get_or c.explore-len.new.level v 0) c.wide-last.ensures.same) _ (sym c.least_where.ensures ∙ c.unwrap-far.ensures)

pub returns-clause-far_free : goal.returns-clause-far_free
returns-clause-far_free c =
    rw c.wide.ensures.same (rw (far_is c.args.ranked.now.graph _ _ c.requires.lists.marks c.requires.free_at _ _ _ c.explore-len.ensures
    c.args.ranked.now.degrees.now c.args.ranked.now.table _ (ap (λ (v : ℕ). get_or c.explore-len.new.level v 0) c.wide-last.ensures.same) _
    (sym c.least_where.ensures ∙ c.unwrap-far.ensures)) (far_free_at c.args.ranked.now.graph _ _ c.requires.lists.marks c.requires.free_at))
