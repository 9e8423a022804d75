-- THE LANGUAGE OF THE BENCH PROGRAM'S TEXT: when a text is as RULES.md § 9 describes it, and what it then says.
use Rattle.std.specs.Prelude.{ℕ, ◌*◌, ◌≡◌, Bool, true, false, ◌&&◌, List, [], ◌∷◌, length, get_or, drop, leb, eqb}
use Rattle.law.specs.All.{all}
use Rattle.law.specs.Limit.{bytes as byteLimit}
use Rattle.bench_scan.specs.Numbers.{allowed, numbers, small}

-- n, the pair count p, then 2p numbers
unfoldable pub counted : List ℕ → Bool
counted [] = false
counted (n ∷ []) = false
counted (n ∷ p ∷ l) = eqb (length l) (2 * p)

unfoldable pub described : List ℕ → Bool
described s = leb (length s) byteLimit && (all allowed s && (all small (numbers s) && counted (numbers s)))

-- ---- what a text as described says

abbrev pub particle_count : List ℕ → ℕ
particle_count s = get_or (numbers s) 0 0

abbrev pub pair_count : List ℕ → ℕ
pair_count s = get_or (numbers s) 1 0

abbrev pub pair_numbers : List ℕ → List ℕ
pair_numbers s = drop 2 (numbers s)

-- s is as described, and these are its counts
pub record Known (s : List ℕ) (n p : ℕ) : Type 0 where
  pub right : described s ≡ true
  pub first : n ≡ particle_count s
  pub second : p ≡ pair_count s
