-- THE SUBSTITUTIONS' X AT EACH PARTICLE. The call `solve` was handed i and came to o. The values are a factor L as they stand:
-- its row r has the columns from first[r] on, and position k has the rows 2k and 2k + 1.
use Rattle.std.specs.Prelude.{ℕ, ◌+◌, ◌*◌, ◌/◌, ◌%◌, ◌≤◌, ◌<◌, ◌≡◌, true, List, length, get_or, drop, Float, Ok, Err}
use Rattle.std.specs.Float.{nan}
use Rattle.law.specs.declared.refusal.Refusal.{Refusal}
use Rattle.law.specs.Limit.{particles, envelope}
use Rattle.law.specs.Room.{enough}
use Rattle.law.specs.Promise.{Promise}
use Rattle.plane.specs.Plane.{◌⊘◌, zero_of}
use Rattle.plane.specs.Lent.{vector_at}
use Rattle.matrix_shape.specs.Rows.{at}
use Rattle.plan_fits.specs.Fits.{plan_rules_ok}
use Rattle.plan_fits.specs.Given.{plan_room, factor_length}
use Rattle.plan_fits.specs.Cells.{look}
use Rattle.factor_load.specs.Permuted.{Matrix}
use Rattle.factor_passes.specs.Passes.{forward_by}
use Rattle.factor_passes.specs.PassMeaning.{owed}
use Rattle.factor_doors.specs.Solving.{In, Out, values_room, door}

-- what the call tests, each refusal turned round
pub record Accepted (i : In) : Type 0 where
  -- 1: at most 1,024 particles
  pub few : i.n ≤ particles
  -- 3: the lists have the places that the plan, the factor and the vectors fill
  pub planned : enough true (plan_room i.n i.perm i.inv_perm i.first i.row_start) ≡ true
  pub room : enough true (values_room i.n i.row_start i.values i.b i.x i.scratch) ≡ true
  -- 6: the plan keeps the rules that ask for no pattern
  pub fits : plan_rules_ok i.n (at i.perm) (at i.inv_perm) (at i.first) (at i.row_start) ≡ true
  -- 7: the envelope has at most 16,384 entries
  pub short : factor_length i.n i.row_start ≤ envelope

-- row r of a vector in the order o: its number r % 2 of the particle at position r / 2
abbrev pub row_in : (ℕ → ℕ) → List Float → ℕ → Float
row_in o v r = get_or v (2 * o (r / 2) + r % 2) nan

-- THE TWO SUBSTITUTIONS over m rows of a lower triangle l, whose row r has the columns from f r on; b r is the right-hand side's row r
pub record Substituted (m : ℕ) (f : ℕ → ℕ) (l : Matrix) (b : ℕ → Float) (y x : List Float) : Type 0 where
  -- L y = b: y(r) is b(r) less the sum of L(r,k)·y(k) over the columns k before the diagonal, over L(r,r)
  pub forward : (r : ℕ) → r < m → get_or y r nan ≡ forward_by f l y (b r) r
  -- Lᵀ x = y: x(r) is y(r) less L(j,r)·x(j) for each row j below that has the column r, the last row first, over L(r,r)
  pub backward : (r : ℕ) → r < m → get_or x r nan ≡ owed f l m x r (get_or y r nan) ⊘ l r r

-- what a call that answered leaves: y and z are the substitutions' numbers, by rows
pub record Leaves (i : In) (o : Out) (y z : List Float) : Type 0 where
  pub solves : Substituted (2 * i.n) (at i.first) (look (at i.first) (at i.row_start) i.values) (row_in (at i.perm) i.b) y z
  -- the particle at position k has that position's two numbers
  pub gives : (k : ℕ) → k < i.n → vector_at o.x (at i.perm k) ≡ vector_at z k
  -- past 2n places x is as it was
  pub rest : drop (2 * i.n) o.x ≡ drop (2 * i.n) i.x
  pub long : length o.x ≡ length i.x
  -- the scratch's first 2n places are zeros, and its rest is as it was
  pub cleared : (k : ℕ) → k < i.n → vector_at o.scratch k ≡ zero_of
  pub past : drop (2 * i.n) o.scratch ≡ drop (2 * i.n) i.scratch
  pub wide : length o.scratch ≡ length i.scratch

-- THE CALL GIVES THE SUBSTITUTIONS' X at each particle
abbrev pub GivesSubstituted : Type 0
GivesSubstituted = (i : In) (o : Out) → Promise door i o → o.answer ≡ Ok tt → (y : List Float) × ((z : List Float) × Leaves i o y z)

-- it answers exactly where its tests pass, and a refusal changes nothing
abbrev pub AnsweredExactly : Type 0
AnsweredExactly =
    (i : In) (o : Out) → Promise door i o → (Accepted i → o.answer ≡ Ok tt) × (o.answer ≡ Ok tt → Accepted i)
    × ((k : Refusal) → o.answer ≡ Err k → (o.x ≡ i.x) × (o.scratch ≡ i.scratch))

-- AND NOTHING ELSE IS SUBSTITUTED: whatever lists y and z are so, wherever they come from, z's numbers are the particles'
abbrev pub OneSolution : Type 0
OneSolution =
    (i : In) (o : Out) → Promise door i o → Accepted i → (y z : List Float)
    → Substituted (2 * i.n) (at i.first) (look (at i.first) (at i.row_start) i.values) (row_in (at i.perm) i.b) y z
    → (k : ℕ) → k < i.n → vector_at o.x (at i.perm k) ≡ vector_at z k
