use mathlib.Core.Path.{◌≡◌, sym, ap, ◌∙◌}
use mathlib.Core.Bool.{Bool}
use mathlib.Core.List.{List}
use mathlib.Core.Logic.{inr}
use Prim.Native.Nat.{ℕ, ◌+◌, ◌<◌}
use native.Mathlib.Omega.{arith}
use lib.ListN.{get_or}
use Rattle.law.specs.Gather.{table}
use Rattle.law.proofs.Gather.{length_table}
use Rattle.law.specs.Store.{written_whole, written_long, written_other}
use Rattle.law.proofs.Store.{write_none, write_more, table_more}
use Rattle.matrix_shape.specs.Made.{row_of, start_of, slot_of, starts_of, cols_of, slots_of, start_none, start_more, start_rise}
use Rattle.matrix_pairs.specs.Pairs.{stored_by}
use borrow.Author.Rules.{rules}
use Rattle.matrix_build.proofs.filling.fill_rows.Goals as goal

pub loop-r-init : goal.loop-r-init
loop-r-init c = (search rules, sym (start_none _ _), write_none _ _ _ _, write_none _ _ _ _, write_none _ _ _ _)

pub fill_row-at-requires : goal.fill_row-at-requires
fill_row-at-requires c =
    let n = c.args.pairs.now.n in
    let p : ℕ → ℕ → Bool = stored_by c.args.pairs.now.list.now c.args.pairs.now.count in
    let r = c.loop-r.r in
    let inv = c.loop-r.invariant in
    let f = c.requires.unfilled in
    let l : r < n = omega (arith, c.loop-r-test.true) in
    let more = start_more n p r in
    let rise = start_rise n p (r + 1) n (omega arith) in
    let there : get_or c.loop-r.diagonal r 0 ≡ get_or c.args.diagonal.now r 0 =
    ap (λ (t : List ℕ). get_or t r 0) inv.4 ∙ written_other c.args.diagonal.now 0 (table (slot_of n p) r) r 0
    (inr (omega (arith, length_table (slot_of n p) r))) in (record {
      given = c.requires.given;
      filling = record {
        row = l;
        links_long = f.links_long;
        starts_long = omega (arith, written_long _ _ _ _ inv.2, f.starts_long);
        cols_long = omega (arith, written_long _ _ _ _ inv.3, inv.1, f.cols_long);
        slots_small = omega (arith, inv.1, f.slots_small);
        diagonal_long = omega (arith, written_long _ _ _ _ inv.4, f.diagonal_long);
        chain = rw there (f.listed.chain r l);
      };
    })

pub loop-r-preserved : goal.loop-r-preserved
unfolding start_of slot_of
loop-r-preserved c =
    let n = c.args.pairs.now.n in
    let p : ℕ → ℕ → Bool = stored_by c.args.pairs.now.list.now c.args.pairs.now.count in
    let r = c.loop-r.r in
    let inv = c.loop-r.invariant in
    let f = c.requires.unfilled in
    let m = c.fill_row-at.ensures in (
      omega (arith, c.loop-r-test.true),
      m.behind ∙ rw inv.1 (sym (start_more n p r)),
      m.begins ∙ rw (inv.2, inv.1) (table_more (start_of n p) c.args.row_offsets.now r),
      m.stored ∙ rw (inv.3, inv.1) (write_more (row_of n p) c.args.cols.now r),
      m.marked ∙ rw (inv.4, inv.1) (table_more (slot_of n p) c.args.diagonal.now r),
    )

pub overflow_cast-row_offsets : goal.overflow_cast-row_offsets
overflow_cast-row_offsets c =
    let n = c.args.pairs.now.n in
    let p : ℕ → ℕ → Bool = stored_by c.args.pairs.now.list.now c.args.pairs.now.count in
    let r = c.loop-r.r in
    let inv = c.loop-r.invariant in
    let f = c.requires.unfilled in
    omega (arith, inv.1, start_rise n p r n inv.0, f.slots_small)

pub bounds-row_offsets-pairs : goal.bounds-row_offsets-pairs
bounds-row_offsets-pairs c =
    let n = c.args.pairs.now.n in
    let p : ℕ → ℕ → Bool = stored_by c.args.pairs.now.list.now c.args.pairs.now.count in
    let r = c.loop-r.r in
    let inv = c.loop-r.invariant in
    let f = c.requires.unfilled in
    omega (arith, written_long _ _ _ _ inv.2, f.starts_long)

pub returns : goal.returns
unfolding starts_of cols_of slots_of
returns c =
    let n = c.args.pairs.now.n in
    let p : ℕ → ℕ → Bool = stored_by c.args.pairs.now.list.now c.args.pairs.now.count in
    let r = c.loop-r.r in
    let inv = c.loop-r.invariant in
    let f = c.requires.unfilled in
    let e : r ≡ n = omega arith in
    record {
      behind = inv.1 ∙ rw e;
      begins = rw (inv.2, inv.1, e) (table_more (start_of n p) c.args.row_offsets.now n ∙ written_whole c.args.row_offsets.now
          (table (start_of n p) (n + 1)) (length_table (start_of n p) (n + 1) ∙ sym f.starts_long));
      stored = inv.3 ∙ rw e;
      marked = inv.4 ∙ rw e (written_whole c.args.diagonal.now (table (slot_of n p) n) (length_table (slot_of n p) n ∙ sym f.diagonal_long));
    }
