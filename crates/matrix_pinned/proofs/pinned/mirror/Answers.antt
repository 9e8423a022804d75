use mathlib.Core.Path.{◌∙◌}
use native.Mathlib.Omega.{arith}
use Rattle.matrix_pinned.proofs.Mirrors.{upper, lower, upper_slots, lower_slots}
use Rattle.matrix_pinned.proofs.pinned.mirror.Goals as goal

pub slot_of-requires : goal.slot_of-requires
slot_of-requires c =
    rw (c.wide-end.ensures.same, c.wide-behind.ensures.same) (upper_slots _ _ _ _ _ c.requires
    (omega (arith, c.wide-end.ensures.same, c.wide-end.ensures.small)))

pub returns-then-c-wide : goal.returns-then-c-wide
returns-then-c-wide c =
    let half = upper _ _ _ _ _ c.requires (omega (arith, c.if-c-wide.true, c.wide.ensures.same)) in
    c.slot_of.ensures ∙ rw (c.wide-end.ensures.same, c.wide-behind.ensures.same) half

pub slot_of-requires-2 : goal.slot_of-requires-2
slot_of-requires-2 c =
    rw (c.wide-start.ensures.same, c.wide-behind.ensures.same) (lower_slots _ _ _ _ _ c.requires
    (omega (arith, c.wide-end.ensures.same, c.wide-end.ensures.small)))

pub returns : goal.returns
returns c =
    let half = lower _ _ _ _ _ c.requires (omega (arith, c.if-c-wide.false, c.wide.ensures.same)) in
    c.slot_of-2.ensures ∙ rw (c.wide-start.ensures.same, c.wide-behind.ensures.same) half
