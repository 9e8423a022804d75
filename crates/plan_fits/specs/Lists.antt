-- A PLAN IN LISTS, and what each phase of the test gives the next: no row starts past its diagonal once the
-- first columns have passed, and each particle has a position once order and inverse have.
use Rattle.std.specs.Prelude.{ℕ, ◌+◌, ◌*◌, ◌/◌, ◌≤◌, ◌<◌, ◌≡◌, List, length}
use Rattle.std.proofs.Common.{ap, ⊎_elim, arith}
use Rattle.law.specs.Limit.{particles}
use Rattle.law.specs.Truth.{same_or}
use Rattle.matrix_shape.specs.Rows.{at}
use Rattle.plan_fits.specs.Fits.{PlanRules}

-- the lists have the places that a plan for n particles fills
pub record Laid (n : ℕ) (order inverse first starts : List ℕ) : Type 0 where
  pub few : n ≤ particles
  pub places : n ≤ length order
  pub marks : n ≤ length inverse
  pub firsts : 2 * n ≤ length first
  pub begins : 2 * n < length starts

-- a plan in lists that hold it
pub record Plan (n : ℕ) (order inverse first starts : List ℕ) : Type 0 where
  pub laid : Laid n order inverse first starts
  pub planned : PlanRules n (at order) (at inverse) (at first) (at starts)

-- ---- what the test of the row starts needs

pub record Lows (rows : ℕ) (first starts : List ℕ) : Type 0 where
  pub few : rows ≤ 2 * particles
  pub firsts : rows ≤ length first
  pub begins : rows < length starts
  pub low : (r : ℕ) → r < rows → at first r ≤ r

-- a row that starts where its position's first row does, at most at that row's diagonal
pub row_low : (n : ℕ) (f : ℕ → ℕ) → ((i : ℕ) → i < n → (f (2 * i) ≡ f (2 * i + 1)) × (f (2 * i) ≤ 2 * i)) → (r : ℕ) → r < 2 * n → f r ≤ r
row_low n f h r l =
    let i = r / 2 in
    let w = h i (omega arith) in
    ⊎_elim (λ e. omega (arith, ap f e, w.1)) (λ e. let d : r ≡ 2 * i + 1 = omega arith in omega (arith, ap f d, w.0, w.1)) (same_or r (2 * i))

-- ---- what the test of the blocks needs

pub record Placed (n : ℕ) (inverse first : List ℕ) : Type 0 where
  pub marks : n ≤ length inverse
  pub firsts : 2 * n ≤ length first
  pub position : (q : ℕ) → q < n → at inverse q < n

pub placed_of : (n : ℕ) (order inverse first starts : List ℕ) → Plan n order inverse first starts → Placed n inverse first
placed_of n order inverse first starts w = record { marks = w.laid.marks; firsts = w.laid.firsts; position = w.planned.position }
