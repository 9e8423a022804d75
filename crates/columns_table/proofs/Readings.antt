-- Readings of clearing and loading, computed through their doors' outcomes. Assumes nothing.
use Prim.Native.Nat.{ℕ}
use mathlib.Core.Path.{◌≡◌, refl}
use mathlib.Core.Bool.{true, false}
use mathlib.Core.List.{List, [], ◌∷◌, ◌++◌}
use lib.Dec.{leb}
use lib.ListN.{replicate}
use Rattle.std.specs.Prelude.{Ok, Err}
use Rattle.law.specs.declared.refusal.Refusal.TheVariants.{TooManyParticles, TooManyEntries, ShortBuffer, OutOfRange, BadPlan}
use Rattle.law.specs.Limit.{unloaded}
use Rattle.law.specs.Loop.{fold, over}
use Rattle.law.specs.Every.{every}
use Rattle.law.specs.Sum.{sum, bit}
use Rattle.law.specs.Room.{enough}
use Rattle.law.specs.Refusal.{verdict}
use Rattle.law.specs.Promise.{outcome}
use Rattle.law.specs.Said.{refused, carries}
use Rattle.columns_table.specs.Table.{entry_ok, times, numbered, table_ok}
use Rattle.columns_table.specs.Columns.{columns_need}
use Rattle.columns_table.specs.Clearing as clearing
use Rattle.columns_table.specs.Loading as loading

-- no particle is pinned, none is loaded
abbrev free : ℕ → List ℕ
free k = replicate k 0

abbrev bare : ℕ → List ℕ
bare k = replicate k unloaded

-- fifteen numbered particles, and sixteen
abbrev fifteen : List ℕ
fifteen = 3 ∷ 1 ∷ 2 ∷ 0 ∷ 4 ∷ 5 ∷ 6 ∷ 7 ∷ 8 ∷ 9 ∷ 10 ∷ 11 ∷ 12 ∷ 13 ∷ 14 ∷ []

abbrev sixteen : List ℕ
sixteen = fifteen ++ 15 ∷ []

cleared : ℕ → List ℕ → clearing.Out
cleared n table = outcome clearing.door (clearing.given n table)

loaded : ℕ → List ℕ → ℕ → ℕ → List ℕ → loading.Out
loaded n pinned count particle table = outcome loading.door (loading.given n pinned count particle table)

-- three particles, the second of them asked for; their marks, count and table
asked : List ℕ → ℕ → List ℕ → loading.Out
asked pinned count table = loaded 3 pinned count 1 table

record Readings : Type 0 where
  -- the next number is the count, wherever the particle stands
  first : asked (free 3) 0 (bare 3) ≡ loading.left (Ok 1) (unloaded ∷ 0 ∷ unloaded ∷ [])
  third : asked (free 3) 2 (1 ∷ unloaded ∷ 0 ∷ []) ≡ loading.left (Ok 3) (1 ∷ 2 ∷ 0 ∷ [])
  sixteenth : loaded 16 (free 16) 15 15 (fifteen ++ bare 1) ≡ loading.left (Ok 16) sixteen
  -- what is said: the count, or the refusal's number
  says : (asked (free 3) 2 (1 ∷ unloaded ∷ 0 ∷ [])).said ≡ carries 0 (3 ∷ []) []
  says_cleared : (cleared 1 (5 ∷ [])).said ≡ carries 0 (0 ∷ []) []
  says_no : (cleared 2 (5 ∷ [])).said ≡ refused 3
  -- 2: one more than 16, as far as the lists show it; it comes before 3, and a particle at n or above is never new
  one_more : loaded 20 (free 20) 16 16 (sixteen ++ bare 1) ≡ loading.left (Err TooManyEntries) (sixteen ++ bare 1)
  no_place : loaded 20 (free 20) 16 16 sixteen ≡ loading.left (Err ShortBuffer) sixteen
  no_mark : loaded 20 (free 16) 16 16 (sixteen ++ bare 4) ≡ loading.left (Err ShortBuffer) (sixteen ++ bare 4)
  at_n : loaded 16 (free 20) 16 16 (sixteen ++ bare 4) ≡ loading.left (Err OutOfRange) (sixteen ++ bare 4)
  -- 2 before 6, and 1 before 2
  before_six : loaded 2 (free 2) 16 1 (bare 2) ≡ loading.left (Err TooManyEntries) (bare 2)
  before_two : loaded 1025 (free 1) 16 0 (bare 1) ≡ loading.left (Err TooManyParticles) (bare 1)
  -- a pinned one and one twice are accepted unchanged at 16, and 6 at 17
  pinned : loaded 17 (free 16 ++ 1 ∷ []) 16 16 (sixteen ++ bare 1) ≡ loading.left (Ok 16) (sixteen ++ bare 1)
  pinned_17 : loaded 17 (free 16 ++ 1 ∷ []) 17 16 (sixteen ++ bare 1) ≡ loading.left (Err BadPlan) (sixteen ++ bare 1)
  twice : loaded 16 (free 16) 16 3 sixteen ≡ loading.left (Ok 16) sixteen
  twice_17 : loaded 16 (free 16) 17 3 sixteen ≡ loading.left (Err BadPlan) sixteen
  -- 6: a number at the count or above, one missing, one that two have, a pinned particle's
  number_above : asked (free 3) 1 (0 ∷ unloaded ∷ 1 ∷ []) ≡ loading.left (Err BadPlan) (0 ∷ unloaded ∷ 1 ∷ [])
  number_missing : asked (free 3) 2 (1 ∷ unloaded ∷ unloaded ∷ []) ≡ loading.left (Err BadPlan) (1 ∷ unloaded ∷ unloaded ∷ [])
  two_have : asked (free 3) 1 (0 ∷ unloaded ∷ 0 ∷ []) ≡ loading.left (Err BadPlan) (0 ∷ unloaded ∷ 0 ∷ [])
  pinned_number : asked (1 ∷ 0 ∷ 0 ∷ []) 1 (0 ∷ unloaded ∷ unloaded ∷ []) ≡ loading.left (Err BadPlan) (0 ∷ unloaded ∷ unloaded ∷ [])
  no_number : asked (free 3) 0 (4294967294 ∷ unloaded ∷ unloaded ∷ []) ≡ loading.left (Err BadPlan) (4294967294 ∷ unloaded ∷ unloaded ∷ [])
  -- places past n aren't looked at
  past_n : loaded 2 (0 ∷ 0 ∷ 1 ∷ 1 ∷ []) 1 1 (0 ∷ unloaded ∷ 0 ∷ 9 ∷ []) ≡ loading.left (Ok 2) (0 ∷ 1 ∷ 0 ∷ 9 ∷ [])
  -- without particles a count above 0 is 6, but 4 where one is named
  none : table_ok 0 [] 0 [] ≡ true
  none_counted : table_ok 0 [] 1 [] ≡ false
  none_named : loaded 0 [] 1 0 [] ≡ loading.left (Err OutOfRange) []
  -- the need of the columns, whatever the count
  columns : leb (columns_need 2 16) 128 ≡ true
  one_short : leb (columns_need 2 16) 127 ≡ false
  beyond_words : leb (columns_need 1 4611686018427387904) 18446744073709551615 ≡ false
  -- clearing looks at nothing that the table held; past n it stays
  any_table : cleared 2 (5 ∷ 0 ∷ 7 ∷ []) ≡ clearing.left (Ok 0) (unloaded ∷ unloaded ∷ 7 ∷ [])
  no_particles : cleared 0 (5 ∷ []) ≡ clearing.left (Ok 0) (5 ∷ [])
  too_short : cleared 2 (5 ∷ []) ≡ clearing.left (Err ShortBuffer) (5 ∷ [])
  too_many : cleared 1025 (5 ∷ []) ≡ clearing.left (Err TooManyParticles) (5 ∷ [])

readings : Readings
unfolding cleared loaded asked outcome verdict enough fold over every sum bit entry_ok times numbered table_ok clearing.refusals
    loading.is_new loading.table_room loading.refusals loading.work
readings = record {
  first = refl;
  third = refl;
  sixteenth = refl;
  says = refl;
  says_cleared = refl;
  says_no = refl;
  one_more = refl;
  no_place = refl;
  no_mark = refl;
  at_n = refl;
  before_six = refl;
  before_two = refl;
  pinned = refl;
  pinned_17 = refl;
  twice = refl;
  twice_17 = refl;
  number_above = refl;
  number_missing = refl;
  two_have = refl;
  pinned_number = refl;
  no_number = refl;
  past_n = refl;
  none = refl;
  none_counted = refl;
  none_named = refl;
  columns = refl;
  one_short = refl;
  beyond_words = refl;
  any_table = refl;
  no_particles = refl;
  too_short = refl;
  too_many = refl;
}
