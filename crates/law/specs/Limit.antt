-- The limits (RULES.md § 2), each named once for the definitions; src/lib.rt names the same for the code, and each test's proof holds the two together.
use Rattle.std.specs.Prelude.{ℕ}

-- what a bracket model may hold
abbrev pub particles : ℕ
particles = 1024

abbrev pub pairs : ℕ
pairs = 4096

abbrev pub envelope : ℕ
envelope = 16384

abbrev pub entries : ℕ
entries = 16

abbrev pub iterations : ℕ
iterations = 4096

-- the particles whose columns are kept
abbrev pub columns : ℕ
columns = 16

-- from this sum of its counts on a tally stays
abbrev pub tally : ℕ
tally = 4000000000

-- the bench program's text
abbrev pub bytes : ℕ
bytes = 65536

-- `block_index`'s answer for a block that is not stored
abbrev pub absent : ℕ
absent = 4294967295

-- what a table of columns has for a particle that isn't loaded
abbrev pub unloaded : ℕ
unloaded = 4294967295
