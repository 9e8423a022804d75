-- THE TABLE OF COLUMNS: for each particle the number of its column, or `unloaded`. That it numbers unpinned particles 0, 1, 2 up to its count,
-- each once, as a sentence (`Numbered`) and as a test (`table_ok`), each following from the other (Test.antt). Places past n are not looked at.
use Rattle.std.specs.Prelude.{ℕ, ◌≤◌, ◌<◌, ◌≡◌, Bool, ◌&&◌, ◌||◌, Option, None, Some, List, ltb, leb, eqb}
use Rattle.law.specs.Limit.{columns, unloaded}
use Rattle.law.specs.Every.{every}
use Rattle.law.specs.Sum.{sum, bit}
use Rattle.matrix_shape.specs.Rows.{at}

-- THE SENTENCE. At most 16 are loaded; who has a number is unpinned, and the number is below the count; each number below the count is some
-- particle's, and no two particles' (`unloaded` is no number)
pub record Numbered (n : ℕ) (pinned : List ℕ) (count : ℕ) (table : List ℕ) : Type 0 where
  pub few : count ≤ columns
  pub inside : (p : ℕ) → p < n → (at table p ≡ unloaded → ⊥) → at table p < count
  pub unpinned : (p : ℕ) → p < n → (at table p ≡ unloaded → ⊥) → at pinned p ≡ 0
  pub each : (c : ℕ) → c < count → (p : ℕ) × ((p < n) × (at table p ≡ c))
  pub once : (p q : ℕ) → p < n → q < n → (at table p ≡ unloaded → ⊥) → at table p ≡ at table q → p ≡ q

-- what a particle's place in a table says of its column
abbrev pub column_is : ℕ → Option ℕ → Type 0
column_is place None = place ≡ unloaded
column_is place (Some c) = (c ≡ place) × (c < unloaded)

-- THE TEST. A particle's own entry is in order
unfoldable pub entry_ok : List ℕ → ℕ → List ℕ → ℕ → Bool
entry_ok pinned count table p = eqb (at table p) unloaded || (ltb (at table p) count && eqb (at pinned p) 0)

-- how many particles have the number
unfoldable pub times : ℕ → List ℕ → ℕ → ℕ
times n table c = sum (λ p. bit (eqb (at table p) c)) n

unfoldable pub numbered : ℕ → List ℕ → ℕ → List ℕ → Bool
numbered n pinned count table = every (entry_ok pinned count table) 0 n && every (λ c. eqb (times n table c) 1) 0 count

unfoldable pub table_ok : ℕ → List ℕ → ℕ → List ℕ → Bool
table_ok n pinned count table = leb count columns && numbered n pinned count table
