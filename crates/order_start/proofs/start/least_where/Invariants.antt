use mathlib.Core.Path.{◌≡◌}
use Rattle.order_definition.specs.Keys.{key_of, valued}
use Rattle.order_definition.proofs.Choosing.{best_to}
use Rattle.order_start.proofs.start.least_where.Given as goal

abbrev pub invariant-loop-w : goal.invariant-loop-w
invariant-loop-w l = l.best ≡ best_to (key_of l.degrees) (valued l.vals l.want) l.list l.w-index
