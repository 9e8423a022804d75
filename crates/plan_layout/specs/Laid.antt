-- WHAT THE ROWS ARE WORKED OUT FROM: a pattern, an order that lists each particle once, and the place of each.
use Rattle.std.specs.Prelude.{ℕ, ◌+◌, ◌*◌, ◌≤◌, ◌<◌, ◌≡◌, length, set}
use Rattle.std.proofs.Math.Path.{sym, ap}
use Rattle.std.proofs.Common.{◌∙◌, arith, add-one}
use mathlib.Core.List.{List}
use Rattle.law.proofs.Loop.{over_same}
use Rattle.law.specs.Gather.{table}
use Rattle.law.proofs.Gather.{length_table, table_at}
use Rattle.law.specs.Store.{written}
use Rattle.law.proofs.Store.{table_turn}
use Rattle.law.specs.Limit.{particles}
use Rattle.matrix_shape.specs.Rows.{at, row_end}
use Rattle.order_definition.specs.Tight.{Tight}
use Rattle.order_definition.specs.Envelope.{place_of, lesser, first_block, first_col}
use Rattle.plan_layout.specs.EachOnce.{EachOnce, place_at}
use Rattle.plan_layout.specs.Leftmost.{walked, Started, first_walked, first_most, first_even, first_odd}

pub record Laid (n : ℕ) (s c o p : List ℕ) : Type 0 where
  pub few : n ≤ particles
  pub pattern : Tight n s c
  pub order : EachOnce n o
  pub inverse : p ≡ table (place_of o) n

-- what a walk over row v needs
pub record Walk (s c p : List ℕ) (v : ℕ) : Type 0 where
  pub here : v + 1 < length s
  pub rise : at s v ≤ at s (v + 1)
  pub room : at s (v + 1) ≤ length c
  pub below : (k : ℕ) → k < length c → at c k < length p

module _ (n : ℕ) (s c o p : List ℕ) (l : Laid n s c o p) where
  pub laid_long : length p ≡ n
  laid_long = ap length l.inverse ∙ length_table (place_of o) n

  pub laid_walk : (i : ℕ) → i < n → Walk s c p (at o i)
  laid_walk i h =
      let t = l.pattern in
      let v = l.order.below i h in
      let rise : (r : ℕ) → r < n → at s r ≤ at s (r + 1) = λ r g. rw (add-one r) (t.rise r g) in
      record {
        here = omega (arith, t.rows);
        rise = rise (at o i) v;
        room = omega (arith, row_end n (at s) rise (at o i) v, t.ends);
        below = λ k g. omega (arith, t.below k g, laid_long);
      }

  -- the walk finds the definition's block column
  laid_first : (i : ℕ) → i < n → walked s c (at p) (at o i) i ≡ first_block s c o i
  unfolding walked
  laid_first i h =
      let w = laid_walk i h in
      over_same (λ k b. lesser b (at p (at c k))) (λ k b. lesser b (place_of o (at c k))) (at s (at o i)) (at s (at o i + 1)) i
      (λ k b g m. ap (λ (q : ℕ). lesser b q) (ap (λ (t : List ℕ). at t (at c k)) l.inverse ∙ table_at (place_of o) n (at c k)
      (l.pattern.below k (omega (arith, w.room)))))
      ∙ sym (first_walked s c o i (place_at n o l.order i h) w.rise w.room)

  pub laid_started : (i r : ℕ) → i < n → r ≡ walked s c (at p) (at o i) i → Started (first_block s c o i) i r
  laid_started i r h e = let q : r ≡ first_block s c o i = e ∙ laid_first i h in record { same = q; most = omega (arith, first_most s c o i) }

-- the table of first columns, written two rows at a time
pub firsts_put : (s c o l x : List ℕ) (i v : ℕ) → x ≡ written l 0 (table (first_col s c o) (2 * i)) → v ≡ 2 * first_block s c o i
    → set (set x (2 * i) v) (2 * i + 1) v ≡ written l 0 (table (first_col s c o) (2 * (i + 1)))
firsts_put s c o l x i v e q =
    let f = first_col s c o in
    let m : 2 * i + 1 + 1 ≡ 2 * (i + 1) = omega arith in
    rw m at (table_turn f l (set x (2 * i) v) (2 * i + 1) v (table_turn f l x (2 * i) v e (q ∙ sym (first_even s c o i))) (q ∙ sym (first_odd s c o i)))
