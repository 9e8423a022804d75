use Rattle.order_definition.proofs.Filling.{Appended}
use Rattle.order_make.proofs.place.append_open.Given as goal

abbrev pub invariant-loop-w : goal.invariant-loop-w
invariant-loop-w l = Appended l.row l.mark l.v l.len l.initial.order l.w-index l.at l.order
