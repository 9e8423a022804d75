use Rattle.std.proofs.Common.{rules}
use Rattle.bench_text.proofs.Filling.{more_read}
use Rattle.bench_text.proofs.buffer.read_full.Goals as goal

pub loop-at-preserved : goal.loop-at-preserved
loop-at-preserved g c = record {
  room = search rules;
  within = search rules;
  read = more_read _ _ _ c.loop-at.at _ c.in_ok-n.n c.loop-at.buffer c.read.new.buf c.loop-at.invariant.within c.in_ok-n.ensures.bound.0
      c.loop-at.invariant.read c.in_ok-n.ensures.bytes.0;
}
