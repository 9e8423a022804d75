-- THE PATTERN OF PAIRS AND ITS PLAN ARE READY TO BE DRAWN.
use Rattle.std.specs.Prelude.{ℕ, ◌+◌, ◌*◌, ◌≤◌, ◌≡◌, List, []}
use Rattle.std.proofs.Common.{append-nil}
use native.Mathlib.Omega.{arith}
use Rattle.std.proofs.Math.ListN.{take}
use Rattle.std.proofs.Math.Seq.{take_all}
use Rattle.law.proofs.Gather.{length_table}
use Rattle.law.specs.Limit.{particles}
use Rattle.matrix_shape.specs.Index.{line_of}
use Rattle.matrix_shape.specs.Made.{start_of, starts_of, slots_of, length_cols}
use Rattle.matrix_shape.specs.Rows.{at, Pattern}
use Rattle.matrix_pairs.specs.Pairs.{stored_by}
use Rattle.order_definition.specs.Envelope.{first_col}
use Rattle.order_definition.specs.Order.{order_of}
use Rattle.plan_layout.specs.EachOnce.{EachOnce, order_lists}
use Rattle.plan_make.specs.Plan.{plan_by, plan_of}
use Rattle.bench_plan.specs.Outcome.{starts_by, cols_by}
use Rattle.bench_plan.specs.Built.{ends_at, patterned}
use Rattle.bench_picture.specs.Ready.{Ready}
use Rattle.bench_sketch.specs.Spied.{scene_by}

module _ (n count : ℕ) (pairs : List ℕ) (few : n ≤ particles) where
  pub ends : at (starts_by n count pairs) n ≡ start_of n (stored_by pairs count) n
  ends = rw append-nil at (ends_at n count pairs [] [] [])

  -- with nothing behind it
  alone : Pattern n (starts_by n count pairs) (cols_by n count pairs) (slots_of n (stored_by pairs count))
  alone = simp append-nil at (patterned n count pairs [] [] [] few)

  listed : EachOnce n (order_of n (starts_by n count pairs) (cols_by n count pairs))
  unfolding starts_of
  listed =
      let s : take (n + 1) (starts_by n count pairs) ≡ starts_by n count pairs = take_all (n + 1) (starts_by n count pairs)
      (omega (arith, length_table (start_of n (stored_by pairs count)) (n + 1))) in
      let c : take (at (starts_by n count pairs) n) (cols_by n count pairs) ≡ cols_by n count pairs = take_all (at (starts_by n count pairs) n)
      (cols_by n count pairs) (omega (arith, ends, length_cols n (stored_by pairs count))) in
      rw (s, c) at (order_lists n (starts_by n count pairs) (cols_by n count pairs) _ alone)

  pub scene_ready : Ready (scene_by n count pairs)
  unfolding scene_by plan_of plan_by
  scene_ready =
      record {
        few = few;
        line = λ r l. line_of n (starts_by n count pairs) (cols_by n count pairs) _ alone r l;
        in_order = omega (arith, listed.long);
        particle = λ i l. listed.below i l;
        in_first = omega (
          arith,
          length_table (first_col (starts_by n count pairs) (cols_by n count pairs)
              (order_of n (starts_by n count pairs) (cols_by n count pairs))) (2 * n),
        );
      }
