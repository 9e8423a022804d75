use Rattle.std.proofs.Common.{◌≡◌, ◌≤◌, length}
use Rattle.replay.proofs.line.steps.Given as goal

abbrev pub invariant-loop-b : goal.invariant-loop-b
invariant-loop-b l = (l.at ≤ length l.line) × (length l.line ≡ length l.initial.line) × (length l.words ≡ length l.initial.words)
