use mathlib.Core.Path.{◌∙◌}
use Rattle.bench_text.proofs.Passes.{head_said, head_long}
use Rattle.bench_text.proofs.head.head_of.Goals as goal

pub returns-then-text-gt-BYTES : goal.returns-then-text-gt-BYTES
returns-then-text-gt-BYTES c = head_long _ c.if-text-gt-BYTES.true

pub returns-in_err-k : goal.returns-in_err-k
returns-in_err-k c =
    c.from_residual.ensures ∙ rw c.in_err-k.was at (head_said _ _ _ c.scanned.ensures c.if-text-gt-BYTES.false)

pub returns-in-Word : goal.returns-in-Word
returns-in-Word c = rw c.in-Word.is at (rw c.in_ok-k.was at (head_said _ _ _ c.scanned.ensures c.if-text-gt-BYTES.false))

pub returns-in-Gap : goal.returns-in-Gap
returns-in-Gap c =
    c.counts.ensures ∙ rw c.in-Gap.is at (rw c.in_ok-k.was at (head_said _ _ _ c.scanned.ensures c.if-text-gt-BYTES.false))
