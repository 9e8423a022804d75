-- WHAT THE PLAN OF A PATTERN IS LIKE, as a test of plans asks for it: order and inverse undo each other, both rows of a
-- place start at one even column, rows stand one behind the other, and every stored lower block lies inside.
use Rattle.std.specs.Prelude.{ℕ, ◌+◌, ◌-◌, ◌*◌, ◌%◌, ◌≤◌, ◌<◌, ◌≡◌, take}
use Rattle.std.proofs.Math.Path.{refl, ap}
use Rattle.std.proofs.Common.{sym, ◌∙◌, arith}
use mathlib.Core.List.{List}
use Rattle.law.proofs.Gather.{table_at}
use Rattle.matrix_shape.specs.Formed.{Stored}
use Rattle.matrix_shape.specs.Rows.{at, Pattern}
use Rattle.order_definition.specs.Envelope.{place_of, first_block, first_col}
use Rattle.order_demand3.specs.Demand.{order_in}
use Rattle.order_demand3.proofs.Whole.{demand_3}
use Rattle.plan_layout.specs.EachOnce.{EachOnce, order_lists, place_below, at_place, place_at}
use Rattle.plan_layout.specs.Leftmost.{first_most, first_even, first_odd}
use Rattle.plan_layout.specs.Starts.{start_at, start_none, start_more, starts_are}
use Rattle.plan_make.specs.Plan.{Plan, plan_by, plan_of}

-- the plan of the pattern that lists hold
abbrev pub plan_in : ℕ → List ℕ → List ℕ → Plan
plan_in n starts cols = plan_of n (take (n + 1) starts) (take (at starts n) cols)

module _ (n : ℕ) (starts cols diagonal : List ℕ) (p : Pattern n starts cols diagonal) where
  abbrev o : List ℕ
  o = order_in n starts cols

  abbrev f : ℕ → ℕ
  f = first_col (take (n + 1) starts) (take (at starts n) cols) o

  abbrev b : ℕ → ℕ
  b = first_block (take (n + 1) starts) (take (at starts n) cols) o

  order_is : (plan_in n starts cols).order ≡ o
  unfolding plan_of plan_by
  order_is = refl

  inverse_at : (q : ℕ) → q < n → at (plan_in n starts cols).inverse q ≡ place_of o q
  unfolding plan_of plan_by
  inverse_at q h = table_at (place_of o) n q h

  first_at : (r : ℕ) → r < 2 * n → at (plan_in n starts cols).first r ≡ f r
  unfolding plan_of plan_by
  first_at r h = table_at f (2 * n) r h

  row_at : (r : ℕ) → r ≤ 2 * n → at (plan_in n starts cols).rows r ≡ start_at f r
  unfolding plan_of plan_by
  row_at r h = ap (λ (t : List ℕ). at t r) (starts_are (take (n + 1) starts) (take (at starts n) cols) o (2 * n)) ∙ table_at (start_at f) (2 * n + 1) r
      (omega arith)

  listed : EachOnce n o
  listed = order_lists n starts cols diagonal p

  -- ---- order and inverse

  pub plan_particle : (i : ℕ) → i < n → at (plan_in n starts cols).order i < n
  plan_particle i h = rw order_is (listed.below i h)

  pub plan_back : (i : ℕ) → i < n → at (plan_in n starts cols).inverse (at (plan_in n starts cols).order i) ≡ i
  plan_back i h = rw order_is (inverse_at (at o i) (listed.below i h) ∙ place_at n o listed i h)

  pub plan_position : (q : ℕ) → q < n → at (plan_in n starts cols).inverse q < n
  plan_position q h = rw (inverse_at q h) (place_below n o listed q h)

  pub plan_forth : (q : ℕ) → q < n → at (plan_in n starts cols).order (at (plan_in n starts cols).inverse q) ≡ q
  plan_forth q h = rw (order_is, inverse_at q h) (at_place n o listed q h)

  -- ---- first columns

  pub plan_same : (i : ℕ) → i < n → at (plan_in n starts cols).first (2 * i) ≡ at (plan_in n starts cols).first (2 * i + 1)
  plan_same i h = first_at (2 * i) (omega arith) ∙ first_even _ _ _ i ∙ sym (first_at (2 * i + 1) (omega arith) ∙ first_odd _ _ _ i)

  pub plan_even : (i : ℕ) → i < n → at (plan_in n starts cols).first (2 * i) % 2 ≡ 0
  plan_even i h = let e : at (plan_in n starts cols).first (2 * i) ≡ 2 * b i = first_at (2 * i) (omega arith) ∙ first_even _ _ _ i in omega arith

  pub plan_most : (i : ℕ) → i < n → at (plan_in n starts cols).first (2 * i) ≤ 2 * i
  plan_most i h =
      let e : at (plan_in n starts cols).first (2 * i) ≡ 2 * b i = first_at (2 * i) (omega arith) ∙ first_even _ _ _ i in
      omega (arith, first_most (take (n + 1) starts) (take (at starts n) cols) o i)

  -- ---- row starts

  pub plan_begins : at (plan_in n starts cols).rows 0 ≡ 0
  plan_begins = row_at 0 (omega arith) ∙ start_none f

  pub plan_grow : (r : ℕ) → r < 2 * n → at (plan_in n starts cols).rows (r + 1) ≡ at (plan_in n starts cols).rows r +
      (r - at (plan_in n starts cols).first r + 1)
  plan_grow r h = rw (row_at (r + 1) (omega arith), row_at r (omega arith), first_at r h) (start_more f r)

  -- ---- stored blocks

  pub plan_inside : (r c : ℕ) → r < n → Stored (at starts) (at cols) r c → at (plan_in n starts cols).inverse c ≤ at (plan_in n starts cols).inverse r
      → at (plan_in n starts cols).first (2 * at (plan_in n starts cols).inverse r) ≤ 2 * at (plan_in n starts cols).inverse c
  plan_inside r c h s l =
      let g : c < n = rw s.1.1 at (p.formed.below r s.0 h s.1.0) in
      let i = place_of o r in
      let j = place_of o c in
      let a : at (plan_in n starts cols).inverse r ≡ i = inverse_at r h in
      let d : at (plan_in n starts cols).inverse c ≡ j = inverse_at c g in
      let u = place_below n o listed r h in
      let v = place_below n o listed c g in
      let t : Stored (at starts) (at cols) (at o i) (at o j) = rw (at_place n o listed r h, at_place n o listed c g) s in
      let z = (demand_3 n starts cols diagonal p).enveloped.inside i j 0 0 u v (omega arith) (omega arith) t (omega arith) in
      rw (a, d) (omega (arith, first_at (2 * i) (omega arith), z, ap f (let e : 2 * i + 0 ≡ 2 * i = omega arith in e)))
