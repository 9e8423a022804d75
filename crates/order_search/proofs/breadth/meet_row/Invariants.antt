use mathlib.Core.Path.{◌≡◌}
use lib.ListN.{length}
use Rattle.order_definition.specs.Searches.{Searched, reach_of}
use Rattle.order_search.proofs.Meeting.{met_to}
use Rattle.order_search.proofs.breadth.meet_row.Given as goal

abbrev pub invariant-loop-c : goal.invariant-loop-c
invariant-loop-c l = (length l.queue ≡ length l.initial.queue) × (length l.level ≡ length l.initial.level)
    × Searched (met_to l.row l.mark l.v l.l (reach_of l.initial.queue l.initial.level l.len) l.c-index) l.queue l.level l.at
