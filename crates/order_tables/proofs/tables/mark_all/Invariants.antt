use mathlib.Core.Path.{◌≡◌}
use lib.ListN.{length, take}
use Rattle.order_definition.specs.Marks.{mark_all}
use Rattle.order_tables.proofs.tables.mark_all.Given as goal

abbrev pub invariant-loop-w : goal.invariant-loop-w
invariant-loop-w l = (length l.mark ≡ length l.initial.mark) × (l.mark ≡ mark_all l.initial.mark (take l.w-index l.list))
