use Rattle.law.specs.Bytes.{bytes}
use Rattle.bench_picture.proofs.Lines.{line_written}
use Rattle.bench_picture.proofs.inner.write_line.Goals as goal

pub returns : goal.returns
unfolding bytes
returns c = line_written _ _ _ _ _ _ _ c.requires.1.1 c.put_pixels-at.ensures c.put_bytes.ensures
