use Rattle.std.proofs.Common.{◌≤◌}
use Rattle.replay_tokens.specs.Room.{room}
use Rattle.replay_tokens.proofs.print.text.Given as goal

abbrev pub invariant-loop-b : goal.invariant-loop-b
invariant-loop-b l = l.to ≤ room
