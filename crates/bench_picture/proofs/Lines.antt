-- A line digit by digit: the first and the last turn, and the line's end.
use Prim.Native.Nat.{ℕ, ◌≤◌}
use mathlib.Core.Path.{◌≡◌}
use mathlib.Core.List.{List, [], ◌∷◌}
use native.Mathlib.Omega.{arith}
use lib.ListN.{length, length-append}
use Rattle.law.specs.Bytes.{bytes}
use Rattle.law.specs.Gather.{table}
use Rattle.law.proofs.Gather.{length_table}
use Rattle.law.specs.Put.{Put, Written, put_both, written_of}
use Rattle.law.specs.Store.{written}
use Rattle.law.proofs.Store.{write_none}
use Rattle.bench_picture.specs.Pixels.{Scene, digit, pixel, width, row_of}
use Rattle.bench_picture.specs.Ready.{line_room}

pub none_yet : (f : ℕ → ℕ) (old : List ℕ) → old ≡ written old 0 (table f 0)
none_yet f old = write_none (λ i. f i ∷ []) old 0 0

pub all_written : (f : ℕ → ℕ) (old out : List ℕ) (k m : ℕ) → k ≡ m → out ≡ written old 0 (table f k) → out ≡ written old 0 (table f m)
all_written f old out k m e h = rw e at h

-- the digits and the line's end
pub line_written : (s : Scene) (i : ℕ) (old mid new : List ℕ) (a r : ℕ) → line_room s.n ≤ length old
    → (a ≡ width s.n) × (mid ≡ written old 0 (table (λ k. digit (pixel s i k)) (width s.n))) → Put (bytes "\n") a mid new r
    → Written (row_of s i) old new r
unfolding row_of bytes
line_written s i old mid new a r room p q =
    let f : ℕ → ℕ = λ k. digit (pixel s i k) in
    let long = length_table f (width s.n) in
    written_of (row_of s i) old new r (omega (arith, length-append (table f (width s.n)) (bytes "\n")))
    (put_both (table f (width s.n)) (bytes "\n") old mid new 0 a r (record { next = omega (arith, p.0); holds = p.1 }) q)
