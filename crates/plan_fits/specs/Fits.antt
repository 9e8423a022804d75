-- WHEN A PLAN FITS, as the rules have it (RULES.md § 6: `PlanRules`, `Inside`, `Fits`) and as tests that compute (`plan_rules_ok`,
-- `inside_ok`, `fits_ok`); each follows from the other. `PlanRules` is the rules that ask for no pattern. A plan for n particles
-- is four functions, so that it may stand in lists or anywhere else: o i is the particle at position i, p q the position of
-- particle q, f r the first column of row r, s r where row r starts. Position i has the rows 2i and 2i + 1.
use Rattle.std.specs.Prelude.{ℕ, ◌+◌, ◌-◌, ◌*◌, ◌%◌, ◌≤◌, ◌<◌, ◌≡◌, Bool, ◌&&◌, ◌||◌, leb, ltb, eqb}
use Rattle.law.specs.Every.{every}
use Rattle.matrix_shape.specs.Formed.{Stored}

pub record PlanRules (n : ℕ) (o p f s : ℕ → ℕ) : Type 0 where
  -- order and inverse undo each other over 0..n-1
  pub particle : (i : ℕ) → i < n → o i < n
  pub back : (i : ℕ) → i < n → p (o i) ≡ i
  pub position : (q : ℕ) → q < n → p q < n
  pub forth : (q : ℕ) → q < n → o (p q) ≡ q
  -- both rows of position i start at the same even column, at most 2i
  pub same : (i : ℕ) → i < n → f (2 * i) ≡ f (2 * i + 1)
  pub even : (i : ℕ) → i < n → f (2 * i) % 2 ≡ 0
  pub most : (i : ℕ) → i < n → f (2 * i) ≤ 2 * i
  -- row starts begin at 0 and grow by row − first + 1
  pub begins : s 0 ≡ 0
  pub grow : (r : ℕ) → r < 2 * n → s (r + 1) ≡ s r + (r - f r + 1)

-- every stored lower block lies inside. The pattern's row starts are t, its columns c
abbrev pub Inside : ℕ → (ℕ → ℕ) → (ℕ → ℕ) → (ℕ → ℕ) → (ℕ → ℕ) → Type 0
Inside n t c p f = (r col : ℕ) → r < n → Stored t c r col → p col ≤ p r → f (2 * p r) ≤ 2 * p col

pub record Fits (n : ℕ) (t c o p f s : ℕ → ℕ) : Type 0 where
  pub planned : PlanRules n o p f s
  pub inside : Inside n t c p f

-- ---- the same as tests

-- what o has at i is below n, and p leads from there back to i
unfoldable pub back_ok : ℕ → (ℕ → ℕ) → (ℕ → ℕ) → ℕ → Bool
back_ok n o p i = ltb (o i) n && eqb (p (o i)) i

unfoldable pub undo_ok : ℕ → (ℕ → ℕ) → (ℕ → ℕ) → Bool
undo_ok n o p = every (back_ok n o p) 0 n

unfoldable pub twins_ok : (ℕ → ℕ) → ℕ → Bool
twins_ok f i = (eqb (f (2 * i)) (f (2 * i + 1)) && eqb (f (2 * i) % 2) 0) && leb (f (2 * i)) (2 * i)

unfoldable pub firsts_ok : ℕ → (ℕ → ℕ) → Bool
firsts_ok n f = every (twins_ok f) 0 n

unfoldable pub grow_ok : (ℕ → ℕ) → (ℕ → ℕ) → ℕ → Bool
grow_ok f s r = eqb (s (r + 1)) (s r + (r - f r + 1))

unfoldable pub starts_ok : ℕ → (ℕ → ℕ) → (ℕ → ℕ) → Bool
starts_ok n f s = eqb (s 0) 0 && every (grow_ok f s) 0 (2 * n)

unfoldable pub plan_rules_ok : ℕ → (ℕ → ℕ) → (ℕ → ℕ) → (ℕ → ℕ) → (ℕ → ℕ) → Bool
plan_rules_ok n o p f s = ((undo_ok n o p && undo_ok n p o) && firsts_ok n f) && starts_ok n f s

-- the block in slot k of a row at position i, whose rows start at column a: it is above the diagonal or lies inside
unfoldable pub slot_ok : (ℕ → ℕ) → (ℕ → ℕ) → ℕ → ℕ → ℕ → Bool
slot_ok c p i a k = ltb i (p (c k)) || leb a (2 * p (c k))

unfoldable pub row_ok : (ℕ → ℕ) → (ℕ → ℕ) → (ℕ → ℕ) → (ℕ → ℕ) → ℕ → Bool
row_ok t c p f r = every (slot_ok c p (p r) (f (2 * p r))) (t r) (t (r + 1))

unfoldable pub inside_ok : ℕ → (ℕ → ℕ) → (ℕ → ℕ) → (ℕ → ℕ) → (ℕ → ℕ) → Bool
inside_ok n t c p f = every (row_ok t c p f) 0 n

unfoldable pub fits_ok : ℕ → (ℕ → ℕ) → (ℕ → ℕ) → (ℕ → ℕ) → (ℕ → ℕ) → (ℕ → ℕ) → (ℕ → ℕ) → Bool
fits_ok n t c o p f s = plan_rules_ok n o p f s && inside_ok n t c p f
