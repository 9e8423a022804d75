use Rattle.plan_inside.specs.Half.{lefts_of}
use Rattle.plan_inside.proofs.inside.row_ok.Goals as goal

pub slots_ok-requires : goal.slots_ok-requires
slots_ok-requires c =
    rw (c.wide-i.ensures.same, c.wide-b.ensures.same, c.wide-a.ensures.same)
    (lefts_of _ _ _ _ _ _ c.requires.formed c.requires.placed _ c.requires.row)
