-- WHAT A PLAN GIVES those who walk over its envelope: rows lie one behind the other, each entry
-- has a place of its own, and the entries of a stored lower block have theirs.
use Rattle.std.specs.Prelude.{ℕ, ◌+◌, ◌-◌, ◌*◌, ◌≤◌, ◌<◌, ◌≡◌, List, length, get_or, Float}
use Rattle.std.proofs.Common.{ap, ⊎_elim, arith, mul-le-mul}
use Rattle.std.specs.Float.{nan}
use Rattle.law.proofs.Loop.{rising, from}
use Rattle.law.specs.Limit.{particles}
use Rattle.law.specs.Truth.{below_or}
use Rattle.matrix_shape.specs.Formed.{Stored}
use Rattle.matrix_shape.specs.Rows.{at, one_row}
use Rattle.plan_fits.specs.Fits.{PlanRules, Fits}
use Rattle.plan_fits.specs.Lists.{Plan, row_low}

-- the part of a plan that says where m rows lie, whatever their order: row r holds the columns f r .. r
pub record Skyline (m : ℕ) (f s : ℕ → ℕ) : Type 0 where
  pub low : (r : ℕ) → r < m → f r ≤ r
  pub begins : s 0 ≡ 0
  pub grow : (r : ℕ) → r < m → s (r + 1) ≡ s r + (r - f r + 1)

pub skyline_of : {n : ℕ} {o p f s : ℕ → ℕ} → PlanRules n o p f s → Skyline (2 * n) f s
skyline_of {n} {o} {p} {f} {s} w = record { low = row_low n f (λ i l. (w.same i l, w.most i l)); begins = w.begins; grow = w.grow }

-- where the entry of row r and column c stands
abbrev pub place : (ℕ → ℕ) → (ℕ → ℕ) → ℕ → ℕ → ℕ
place f s r c = s r + (c - f r)

-- the entries that a list of values holds there
abbrev pub look : (ℕ → ℕ) → (ℕ → ℕ) → List Float → ℕ → ℕ → Float
look f s v = λ r c. get_or v (place f s r c) nan

-- an entry of the envelope
pub record Cell (m : ℕ) (f : ℕ → ℕ) (r c : ℕ) : Type 0 where
  pub row : r < m
  pub left : f r ≤ c
  pub upto : c ≤ r

module _ {m : ℕ} {f s : ℕ → ℕ} (w : Skyline m f s) where
  step : (r : ℕ) → r < m → s r ≤ s (r + 1)
  step r l = omega (arith, w.grow r l)

  -- rows rise
  pub rise : (q r : ℕ) → q ≤ r → r ≤ m → s q ≤ s r
  rise = rising s m step

  -- an entry stands before the next row's start, and so before the envelope's end
  pub behind : {r c : ℕ} → Cell m f r c → place f s r c < s (r + 1)
  behind {r} {c} e = omega (arith, w.grow r e.row, e.left, e.upto)

  pub held : {r c : ℕ} → Cell m f r c → place f s r c < s m
  held {r} {c} e = omega (arith, behind e, rise (r + 1) m (omega (arith, e.row)) (omega arith))

  -- k entries more of the same row
  pub run_held : (r c k : ℕ) → r < m → f r ≤ c → c + k ≤ r → place f s r c + k < s m
  run_held r c k h l g = omega (arith, held (record { row = h; left = omega arith; upto = g }))

  -- the entry on the diagonal is its row's last
  pub corner : (r : ℕ) → r < m → Cell m f r r
  corner r l = record { row = l; left = w.low r l; upto = omega arith }

  pub corner_last : (r : ℕ) → r < m → place f s r r + 1 ≡ s (r + 1)
  corner_last r l = omega (arith, w.grow r l)

  -- no two entries stand at one place
  pub one_cell : {q b r c : ℕ} → Cell m f q b → Cell m f r c → place f s q b ≡ place f s r c → (q ≡ r) × (b ≡ c)
  one_cell {q} {b} {r} {c} x y e =
      let d : q ≡ r = one_row m s step q r (place f s q b) x.row y.row (omega arith, behind x) (omega (arith, e), omega (arith, e, behind y)) in
      (d, omega (arith, e, ap s d, ap f d, x.left, y.left))

  -- row r starts at r(r + 1)/2 at most
  pub start_most : (r : ℕ) → r ≤ m → 2 * s r ≤ r * (r + 1)
  start_most r =
      from (λ r. r ≤ m → 2 * s r ≤ r * (r + 1)) 0 (λ _. omega (arith, w.begins))
      (λ k q ih l. omega (arith, ih (omega arith), w.grow k (omega arith))) r (omega arith)

-- an envelope has 2n(2n + 1)/2 entries at most
pub end_most : {n : ℕ} {o p f s : ℕ → ℕ} → PlanRules n o p f s → s (2 * n) ≤ n * (2 * n + 1)
end_most {n} w = omega (arith, start_most (skyline_of w) (2 * n) (omega arith))

-- an entry of a stored lower block: a and b are its row and column within the block. On the diagonal the upper right one is none of the envelope's
pub block_cell : {n : ℕ} {t c o p f s : ℕ → ℕ} → Fits n t c o p f s → (r col a b : ℕ) → r < n → Stored t c r col → a < 2 → b < 2
    → 2 * p col + b ≤ 2 * p r + a → Cell (2 * n) f (2 * p r + a) (2 * p col + b)
block_cell {n} {t} {c} {o} {p} {f} {s} w r col a b l h u v g =
    let i = w.planned.position r l in
    let e = w.inside r col l h (omega arith) in
    record {
      row = omega arith;
      left = ⊎_elim (λ z. let d : 2 * p r + a ≡ 2 * p r = omega arith in omega (arith, ap f d))
          (λ z. let d : 2 * p r + a ≡ 2 * p r + 1 = omega arith in omega (arith, ap f d, w.planned.same (p r) i)) (below_or a 1);
      upto = g;
    }

-- ---- the same in lists

pub record Drawn (m : ℕ) (first starts : List ℕ) : Type 0 where
  pub few : m ≤ 2 * particles
  pub firsts : m ≤ length first
  pub begins : m < length starts
  pub skyline : Skyline m (at first) (at starts)

pub drawn_of : {n : ℕ} {order inverse first starts : List ℕ} → Plan n order inverse first starts → Drawn (2 * n) first starts
drawn_of w = record { few = omega (arith, w.laid.few); firsts = w.laid.firsts; begins = w.laid.begins; skyline = skyline_of w.planned }

-- a place can be worked out in 32 bits
pub place_small : {m : ℕ} {first starts : List ℕ} → Drawn m first starts → {r c : ℕ} → Cell m (at first) r c → place (at first) (at starts) r c < 4294967296
place_small {m} w e =
    let next : m + 1 ≤ 2 * particles + 1 = omega (arith, w.few) in
    omega (arith, held w.skyline e, start_most w.skyline m (omega arith), mul-le-mul w.few next)
