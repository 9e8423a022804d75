use native.Mathlib.Omega.{arith}
use Rattle.law.specs.Bytes.{bytes}
use Rattle.law.specs.Put.{written_of}
use Rattle.bench_print.specs.Lines.{refused_text}
use Rattle.bench_print.proofs.Lengths.{refused_short}
use Rattle.bench_print.proofs.inner.write_refused.Goals as goal

pub put_line-requires : goal.put_line-requires
unfolding refused_text bytes
put_line-requires c = rw c.from.ensures (omega (arith, refused_short c.args.number _ (omega arith) c.requires))

pub returns : goal.returns
unfolding refused_text bytes
returns c = written_of _ _ _ _ (refused_short c.args.number _ (omega arith) c.requires) (rw c.from.ensures at c.put_line.ensures)
