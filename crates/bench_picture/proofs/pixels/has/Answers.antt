use mathlib.Core.Path.{sym}
use native.Mathlib.Omega.{arith}
use Rattle.law.proofs.Find.{find_tells}
use Rattle.law.specs.Limit.{absent}
use Rattle.matrix_shape.specs.Formed.{stored}
use Rattle.bench_picture.proofs.pixels.has.Goals as goal

pub slot_of-requires : goal.slot_of-requires
slot_of-requires c =
    let l = c.requires in
    rw (c.wide-b.ensures.same, c.wide-a.ensures.same)
    (record { order = l.rise; columns = l.columns; few = omega (arith, c.wide-b.ensures.same, c.wide-b.ensures.small); strict = l.strict })

pub returns : goal.returns
unfolding stored
returns c =
    rw (c.slot_of.ensures, ← c.wide-b.ensures.same, ← c.wide-a.ensures.same)
    (sym (find_tells _ absent _ _ (omega (arith, c.wide-b.ensures.small))))
