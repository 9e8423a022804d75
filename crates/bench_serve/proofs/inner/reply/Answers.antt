use mathlib.Core.Path.{sym}
use lib.Seq.{length-take-le}
use Rattle.bench_serve.specs.Reply.{line_written, lines_written}
use Rattle.bench_serve.proofs.inner.reply.Goals as goal

pub slice_bounds-answer-end : goal.slice_bounds-answer-end
slice_bounds-answer-end c = sym (length-take-le _ _ c.requires.0.within)

pub returns-in-Ok : goal.returns-in-Ok
returns-in-Ok c = lines_written _ _ _ _ c.requires.0 c.requires.1 _ c.in-Ok.ensures

pub returns-in-Err : goal.returns-in-Err
returns-in-Err c = line_written _ _ _ _ c.requires.0 c.requires.1 _ c.in-Err.ensures _ _ (rw c.from.ensures at c.write_refused.ensures)
