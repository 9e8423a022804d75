use Rattle.std.proofs.Common.{◌≤◌}
use Rattle.replay_tokens.specs.Room.{room}
use Rattle.replay_tokens.proofs.print.whole_list.Given as goal

abbrev pub invariant-loop-v : goal.invariant-loop-v
invariant-loop-v l = l.to ≤ room
