use lib.ListN.{length}
use Rattle.order_definition.proofs.Visiting.{sort_below, put, mark_below, done}
use Rattle.order_make.proofs.place.visit.Goals as goal

pub sort_by_key-requires : goal.sort_by_key-requires
sort_by_key-requires c =
    let f = c.append_open-end in
    rw c.requires.degrees_len (sort_below _ c.args.degrees.now _ _ _ _ _ c.requires.room f.ensures.value (length c.args.mark.now) c.requires.below _
    f.ensures.order_after)

pub mark_all-requires : goal.mark_all-requires
mark_all-requires c =
    let f = c.append_open-end in
    mark_below _ c.args.degrees.now _ _ _ _ _ c.requires.room f.ensures.value (length c.args.mark.now) c.requires.below _
    (put _ c.args.degrees.now _ _ _ _ _ c.requires.room f.ensures.value (length c.args.mark.now) c.requires.below _ _ f.ensures.order_after c.sort_by_key.ensures)

pub returns : goal.returns
returns c =
    let f = c.append_open-end in
    done _ c.args.degrees.now _ _ _ _ _ c.requires.room f.ensures.value (length c.args.mark.now) c.requires.below _ _
    (put _ c.args.degrees.now _ _ _ _ _ c.requires.room f.ensures.value (length c.args.mark.now) c.requires.below _ _ f.ensures.order_after c.sort_by_key.ensures)
    c.mark_all.ensures
