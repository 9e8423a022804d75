use Rattle.std.proofs.Common.{◌≤◌}
use Rattle.replay_tokens.proofs.print.whole.Given as goal

abbrev pub invariant-loop-i : goal.invariant-loop-i
invariant-loop-i l = l.start ≤ 20
