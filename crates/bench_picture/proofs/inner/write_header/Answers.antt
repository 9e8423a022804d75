use native.Mathlib.Omega.{arith}
use Prim.Native.Nat.{◌+◌, ◌*◌}
use Rattle.law.specs.Bytes.{bytes}
use Rattle.bench_print.proofs.Lengths.{at_most_ten}
use Rattle.bench_picture.proofs.Header.{header_written}
use Rattle.bench_picture.proofs.inner.write_header.Goals as goal

pub put_number-b-requires : goal.put_number-b-requires
put_number-b-requires c = omega (arith, at_most_ten (4 * c.args.n + 1) (omega arith))

pub put_bytes-c-requires : goal.put_bytes-c-requires
put_bytes-c-requires c = omega (arith, at_most_ten (4 * c.args.n + 1) (omega arith))

pub put_number-d-requires : goal.put_number-d-requires
put_number-d-requires c =
    omega (arith, at_most_ten (4 * c.args.n + 1) (omega arith), at_most_ten (2 * c.args.n) (omega arith))

pub put_bytes-requires : goal.put_bytes-requires
put_bytes-requires c =
    omega (arith, at_most_ten (4 * c.args.n + 1) (omega arith), at_most_ten (2 * c.args.n) (omega arith))

pub returns : goal.returns
unfolding bytes
returns c =
    header_written _ _ _ _ _ _ _ _ _ _ _ _ c.requires.0 c.requires.1 c.put_bytes-a.ensures c.put_number-b.ensures
    c.put_bytes-c.ensures c.put_number-d.ensures c.put_bytes.ensures
