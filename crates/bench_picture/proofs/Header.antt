-- The header is short, and is written part by part.
use Prim.Native.Nat.{ℕ, ◌*◌, ◌≤◌}
use mathlib.Core.List.{List}
use native.Mathlib.Omega.{arith}
use lib.ListN.{length, length-append}
use Rattle.law.specs.Bytes.{bytes}
use Rattle.law.specs.Limit.{particles}
use Rattle.law.specs.Put.{Put, Written, put_both, written_of}
use Rattle.bench_print.specs.Digits.{digits}
use Rattle.bench_print.proofs.Lengths.{at_most_ten}
use Rattle.bench_picture.specs.Pixels.{width, header_of}
use Rattle.bench_picture.specs.Ready.{header_room}

short : (n : ℕ) → n ≤ particles → length (header_of n) ≤ header_room
unfolding header_of bytes
short n h = simp length-append (omega (arith, at_most_ten (width n) (omega arith), at_most_ten (2 * n) (omega arith)))

pub header_written : (n : ℕ) (o0 o1 o2 o3 o4 o5 : List ℕ) (a b c d r : ℕ) → n ≤ particles → header_room ≤ length o0 → Put (bytes "P1\n") 0 o0 o1 a
    → Put (digits (width n)) a o1 o2 b
    → Put (bytes " ") b o2 o3 c → Put (digits (2 * n)) c o3 o4 d → Put (bytes "\n") d o4 o5 r → Written (header_of n) o0 o5 r
unfolding header_of
header_written n o0 o1 o2 o3 o4 o5 a b c d r few room p q s t u =
    written_of (header_of n) o0 o5 r (omega (arith, short n few))
    (put_both _ _ _ _ _ _ _ _ p (put_both _ _ _ _ _ _ _ _ q (put_both _ _ _ _ _ _ _ _ s (put_both _ _ _ _ _ _ _ _ t u))))
