-- Worked texts, computed: what is read, and the refusal into a room of four.
use Prim.Native.Nat.{ℕ}
use mathlib.Core.Path.{◌≡◌, refl}
use mathlib.Core.List.{List, [], ◌∷◌, ◌++◌}
use lib.ListN.{replicate}
use Rattle.std.specs.Prelude.{Ok, Err}
use Rattle.law.specs.declared.refusal.Refusal.TheVariants.{TooManyParticles, ShortBuffer, BadText}
use Rattle.law.specs.Bytes.{bytes}
use Rattle.law.specs.Decimal.{value, value_from}
use Rattle.law.specs.All.{all}
use Rattle.law.specs.Refusal.{verdict}
use Rattle.bench_scan.specs.Numbers.{is_gap, is_digit, allowed, before, pieces, filled, numbers, small}
use Rattle.bench_text.specs.Text.{counted, described}
use Rattle.law.specs.Said.{refused, carries}
use Rattle.bench_text.specs.Nine.{limits, verdict_by, outcome_by}
use Rattle.bench_text.specs.Reading.{Out, given, left, reading, tests, work}
use Rattle.bench_text.specs.Head.{counts_of}

room : List ℕ
room = 5 ∷ 6 ∷ 7 ∷ 8 ∷ []

read_as : List ℕ → Out
read_as text = outcome_by reading text (given text room)

record Readings : Type 0 where
  -- the example of RULES.md § 9, with its separators and leading zeros at will
  plain : read_as (bytes "3 2 0 1 1 2") ≡ left (Ok (counts_of 3 2)) (0 ∷ 1 ∷ 1 ∷ 2 ∷ [])
  spaced : read_as (bytes "\n 003  1\n\n0 4294967295 ") ≡ left (Ok (counts_of 3 1)) (0 ∷ 4294967295 ∷ 7 ∷ 8 ∷ [])
  bare : read_as (bytes "0 0") ≡ left (Ok (counts_of 0 0)) room
  -- 9: nothing, one number, one too few, one too many, a number too large, another byte
  empty : read_as (bytes "") ≡ left (Err BadText) room
  lone : read_as (bytes "0") ≡ left (Err BadText) room
  short : read_as (bytes "3 2 0 1 1") ≡ left (Err BadText) room
  long : read_as (bytes "3 2 0 1 1 2 0") ≡ left (Err BadText) room
  large : read_as (bytes "1 1 4294967296 0") ≡ left (Err BadText) room
  comma : read_as (bytes "3,0") ≡ left (Err BadText) room
  -- 1, 2 and 3, and 9 before 1
  many : read_as (bytes "1025 0") ≡ left (Err TooManyParticles) room
  both : read_as (bytes "1025 1 0") ≡ left (Err BadText) room
  tight : read_as (bytes "3 3 0 1 1 2 2 0") ≡ left (Err ShortBuffer) room
  -- what each answer says
  plain_says : (read_as (bytes "3 2 0 1 1 2")).said ≡ carries 0 (3 ∷ 2 ∷ []) []
  many_says : (read_as (bytes "1025 0")).said ≡ refused 1
  -- as many bytes as there may be, and one more
  full : read_as (replicate 65533 32 ++ bytes "1 0") ≡ left (Ok (counts_of 1 0)) room
  over : read_as (replicate 65534 32 ++ bytes "1 0") ≡ left (Err BadText) room

readings : Readings
unfolding room read_as bytes value value_from all verdict is_gap is_digit allowed before pieces filled numbers small counted described limits
    tests work verdict_by outcome_by
readings = record {
  plain = refl;
  spaced = refl;
  bare = refl;
  empty = refl;
  lone = refl;
  short = refl;
  long = refl;
  large = refl;
  comma = refl;
  many = refl;
  both = refl;
  tight = refl;
  plain_says = refl;
  many_says = refl;
  full = refl;
  over = refl;
}
