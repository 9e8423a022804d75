use Rattle.order_make.proofs.Standing.{stay, some_free, begin}
use Rattle.order_make.proofs.place.open_stretch.Goals as goal

pub returns-then-h-len : goal.returns-then-h-len
returns-then-h-len c = stay c.args.ranked.now c.args.h _ _ _ c.requires.h_in_bounds c.requires.stands c.if-h-len.true

pub find_start-s-requires-clause-some_free : goal.find_start-s-requires-clause-some_free
find_start-s-requires-clause-some_free c = some_free c.args.ranked.now c.args.h _ _ _ c.requires.h_in_bounds c.requires.stands c.if-h-len.false

pub returns : goal.returns
returns c =
    begin c.args.ranked.now c.args.h _ _ _ c.requires.h_in_bounds c.requires.stands c.if-h-len.false c.find_start-s.result c.find_start-s.ensures.value
