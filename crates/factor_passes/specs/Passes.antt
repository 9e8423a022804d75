-- THE TWO PASSES with a lower triangle L as it stands: L y = b forwards, then Lᵀ x = y backwards,
-- each in place. Row i of L has the columns f i .. i; l i k is its entry in column k.
use Rattle.std.specs.Prelude.{ℕ, ◌+◌, ◌-◌, cond, List, ltb, get_or, set, Float}
use Rattle.std.specs.Float.{nan}
use Rattle.law.specs.Loop.{over}
use Rattle.plane.specs.Plane.{◌⊕◌, ◌⊖◌, ◌⊗◌, ◌⊘◌, zero32}

-- the sum of L(i,k)·y(k) over the columns before the diagonal, from +0.0
abbrev pub sum_step : (ℕ → ℕ → Float) → List Float → ℕ → ℕ → Float → Float
sum_step l y i k sum = sum ⊕ l i k ⊗ get_or y k nan

unfoldable pub row_sum : (ℕ → ℕ) → (ℕ → ℕ → Float) → List Float → ℕ → Float
row_sum f l y i = over (sum_step l y i) (f i) i zero32

-- y(i) is b(i) less that sum, over L(i,i). A row that is all diagonal has no sum to subtract
unfoldable pub forward_by : (ℕ → ℕ) → (ℕ → ℕ → Float) → List Float → Float → ℕ → Float
forward_by f l y b i = cond (ltb (f i) i) (b ⊖ row_sum f l y i) b ⊘ l i i

-- in place: y holds b(i) until its turn
unfoldable pub forward_step : (ℕ → ℕ) → (ℕ → ℕ → Float) → ℕ → List Float → List Float
forward_step f l i y = set y i (forward_by f l y (get_or y i nan) i)

unfoldable pub forward_of : (ℕ → ℕ) → (ℕ → ℕ → Float) → ℕ → List Float → List Float
forward_of f l m y = over (forward_step f l) 0 m y

-- L(i,k)·x taken from y(k), for the columns before the diagonal
abbrev pub taken_step : (ℕ → ℕ → Float) → ℕ → Float → ℕ → List Float → List Float
taken_step l i x k y = set y k (get_or y k nan ⊖ l i k ⊗ x)

unfoldable pub taken_of : (ℕ → ℕ) → (ℕ → ℕ → Float) → ℕ → Float → List Float → List Float
taken_of f l i x y = over (taken_step l i x) (f i) i y

-- x(i) is y(i) over L(i,i), once the rows below have taken their parts
unfoldable pub back_step : (ℕ → ℕ) → (ℕ → ℕ → Float) → ℕ → List Float → List Float
back_step f l i y = let x = get_or y i nan ⊘ l i i in taken_of f l i x (set y i x)

-- the last row first
unfoldable pub backward_of : (ℕ → ℕ) → (ℕ → ℕ → Float) → ℕ → List Float → List Float
backward_of f l m y = over (λ k. back_step f l (m - (k + 1))) 0 m y
