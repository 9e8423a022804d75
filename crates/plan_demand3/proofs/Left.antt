-- What an accepted call leaves in the caller's lists: demand 3 and the fit of the plan,
-- carried from the definition's lists to those that begin with them. Assumes nothing.
use Prim.Native.Nat.{ℕ, ◌+◌, ◌*◌, ◌<◌}
use mathlib.Core.Path.{◌≡◌, ap, ◌∙◌}
use mathlib.Core.Bool.{true}
use native.Mathlib.Omega.{arith}
use lib.ListN.{length, length-append, get_or-append}
use Rattle.law.proofs.Gather.{length_table, table_at}
use Rattle.matrix_shape.specs.Rows.{at, Pattern}
use Rattle.matrix_shape.specs.Given.{pattern}
use Rattle.order_definition.specs.Envelope.{place_of}
use Rattle.order_demand3.specs.Demand.{Demand3, order_in, first_in}
use Rattle.order_demand3.proofs.Whole.{order_long, demand_3}
use Rattle.order_demand3.proofs.Carried.{demand_carried}
use Rattle.plan_fits.specs.Fits.{fits_ok}
use Rattle.plan_fits.proofs.Fits.{fits_of}
use Rattle.plan_fits.specs.Lists.{Laid}
use Rattle.plan_fits.specs.Same.{Same, fits_same}
use Rattle.plan_layout.specs.Starts.{start_at, starts_are}
use Rattle.plan_make.specs.Plan.{Plan, plan_by, plan_of, envelope_length}
use Rattle.plan_doors.specs.Facts.{plan_in}
use Rattle.plan_doors.specs.PlanFits.{plan_fits}
use Rattle.plan_doors.specs.Planning.{In, laid_over, length_for, work}
use Rattle.plan_demand3.specs.Door.{Accepted, Blocks, Leaves}

module _ (i : In) (a : Accepted i) where
  pat : Pattern i.n i.row_offsets i.cols i.diagonal
  pat = pattern i.n i.row_offsets i.cols i.diagonal a.few a.held a.well

  abbrev made : Plan
  made = plan_in i.n i.row_offsets i.cols

  abbrev left : Plan
  left = laid_over i.n made i.plan

  order_size : length made.order ≡ i.n
  unfolding plan_of plan_by
  order_size = order_long i.n i.row_offsets i.cols i.diagonal pat

  inverse_size : length made.inverse ≡ i.n
  unfolding plan_of plan_by
  inverse_size = length_table (place_of (order_in i.n i.row_offsets i.cols)) i.n

  first_size : length made.first ≡ 2 * i.n
  unfolding plan_of plan_by
  first_size = length_table (first_in i.n i.row_offsets i.cols) (2 * i.n)

  rows_size : length made.rows ≡ 2 * i.n + 1
  unfolding plan_of plan_by
  rows_size = ap length (starts_are _ _ _ (2 * i.n)) ∙ length_table (start_at (first_in i.n i.row_offsets i.cols)) (2 * i.n + 1)

  same : Same i.n (at made.order) (at made.inverse) (at made.first) (at made.rows) (at left.order) (at left.inverse)
      (at left.first) (at left.rows)
  unfolding laid_over
  same = record {
    order = λ k l. get_or-append made.order _ 0 k (omega (arith, order_size));
    inverse = λ k l. get_or-append made.inverse _ 0 k (omega (arith, inverse_size));
    first = λ r l. get_or-append made.first _ 0 r (omega (arith, first_size));
    rows = λ r l. get_or-append made.rows _ 0 r (omega (arith, rows_size));
  }

  laid : Laid i.n left.order left.inverse left.first left.rows
  unfolding laid_over
  laid = record {
    few = a.few;
    places = rw length-append (omega (arith, order_size));
    marks = rw length-append (omega (arith, inverse_size));
    firsts = rw length-append (omega (arith, first_size));
    begins = rw length-append (omega (arith, rows_size));
  }

  below : (r c : ℕ) → r < i.n → Blocks i r c → c < i.n
  below r c l s = rw s.1.1 at (pat.formed.below r s.0 l s.1.0)

  demand : Demand3 i.n (Blocks i) (at left.order) (at left.first) (at left.rows)
  unfolding plan_of plan_by
  demand =
      demand_carried (record { reaches = below; there = λ r c l s. s; back = λ r c l s. s }) same.order
      (λ r l. same.first r l ∙ table_at (first_in i.n i.row_offsets i.cols) (2 * i.n) r l) same.rows
      (demand_3 i.n i.row_offsets i.cols i.diagonal pat)

  ends : at left.rows (2 * i.n) ≡ length_for i
  unfolding length_for envelope_length
  ends = same.rows (2 * i.n) (omega arith)

  fits : fits_ok i.n (at i.row_offsets) (at i.cols) (at left.order) (at left.inverse) (at left.first) (at left.rows) ≡ true
  fits = fits_of i.n _ _ _ _ _ _ (fits_same same below (plan_fits i.n i.row_offsets i.cols i.diagonal pat))

  pub leaves_work : Leaves i (work i) (length_for i)
  unfolding work
  leaves_work = record { laid = laid; demand = demand; ends = ends; fits = fits }
