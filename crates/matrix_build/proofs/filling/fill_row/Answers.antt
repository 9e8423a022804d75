use mathlib.Core.Path.{◌≡◌, refl, ap, ◌∙◌}
use Prim.Native.Nat.{ℕ, ◌+◌}
use native.Mathlib.Omega.{arith}
use lib.ListN.{length, set, length-set}
use Rattle.law.specs.Store.{written_long}
use Rattle.matrix_lists.specs.Chain.{chain_raise}
use Rattle.matrix_build.specs.Filled.{never, row_rank, row_length, row_stored}
use Rattle.matrix_build.proofs.filling.fill_row.Goals as goal

pub sweep-low-requires : goal.sweep-low-requires
sweep-low-requires c =
    let f = c.requires.filling in
    let long = row_length c.args.pairs.now.count c.args.pairs.now.list.now c.args.r c.args.pairs.now.n f.row in
    (record { given = c.requires.given; from_le_to = (omega arith, omega (arith, f.row), f.links_long); chain = rw c.wide-list.ensures.same f.chain; to_in_bounds = omega (arith, f.cols_long) })

pub overflow_cast-diagonal : goal.overflow_cast-diagonal
overflow_cast-diagonal c =
    let s = c.sweep-low in
    let f = c.requires.filling in
    let long = row_length c.args.pairs.now.count c.args.pairs.now.list.now c.args.r c.args.pairs.now.n f.row in
    let kept : length s.new.cols ≡ length c.args.cols.now = written_long _ _ _ _ s.ensures.stored in
    omega (arith, s.ensures.behind, f.slots_small)

pub offset_bounds-cols-own : goal.offset_bounds-cols-own
offset_bounds-cols-own c =
    let s = c.sweep-low in
    let f = c.requires.filling in
    let long = row_length c.args.pairs.now.count c.args.pairs.now.list.now c.args.r c.args.pairs.now.n f.row in
    let kept : length s.new.cols ≡ length c.args.cols.now = written_long _ _ _ _ s.ensures.stored in
    omega (arith, s.ensures.behind, f.slots_small)

pub bounds-cols-own : goal.bounds-cols-own
bounds-cols-own c =
    let s = c.sweep-low in
    let f = c.requires.filling in
    let long = row_length c.args.pairs.now.count c.args.pairs.now.list.now c.args.r c.args.pairs.now.n f.row in
    let kept : length s.new.cols ≡ length c.args.cols.now = written_long _ _ _ _ s.ensures.stored in
    omega (arith, s.ensures.behind, f.cols_long)

pub overflow_add-own : goal.overflow_add-own
overflow_add-own c =
    let s = c.sweep-low in
    let f = c.requires.filling in
    let long = row_length c.args.pairs.now.count c.args.pairs.now.list.now c.args.r c.args.pairs.now.n f.row in
    let kept : length s.new.cols ≡ length c.args.cols.now = written_long _ _ _ _ s.ensures.stored in
    omega (arith, s.ensures.behind, f.slots_small)

pub sweep-high-requires : goal.sweep-high-requires
sweep-high-requires c =
    let s = c.sweep-low in
    let f = c.requires.filling in
    let long = row_length c.args.pairs.now.count c.args.pairs.now.list.now c.args.r c.args.pairs.now.n f.row in
    let kept : length s.new.cols ≡ length c.args.cols.now = written_long _ _ _ _ s.ensures.stored in
    let l = f.row in (record {
      given = c.requires.given;
      from_le_to = (omega arith, omega arith, f.links_long);
      chain = chain_raise _ _ _ _ _ _ _ c.args.r (c.args.r + 1) (omega arith) (omega arith)
          (λ v u w q. let e : v ≡ c.args.r = omega arith in never _ _ _ (rw e at q)) s.ensures.chain;
      to_in_bounds = rw length-set (omega (arith, s.ensures.behind, f.cols_long));
    })

pub returns : goal.returns
returns c =
    let s = c.sweep-low in
    let f = c.requires.filling in
    let long = row_length c.args.pairs.now.count c.args.pairs.now.list.now c.args.r c.args.pairs.now.n f.row in
    let kept : length s.new.cols ≡ length c.args.cols.now = written_long _ _ _ _ s.ensures.stored in
    let t = c.sweep-high in
    record {
      behind = omega (arith, s.ensures.behind, t.ensures.behind);
      begins = refl;
      stored = t.ensures.stored ∙ rw (s.ensures.stored, s.ensures.behind) (row_stored c.args.pairs.now.count c.args.pairs.now.list.now c.args.r
          c.args.pairs.now.n f.row c.args.cols.now c.args.at);
      marked = ap (λ (k : ℕ). set c.args.diagonal.now c.args.r k) (s.ensures.behind ∙ ap (λ (k : ℕ). c.args.at + k)
          (row_rank c.args.pairs.now.count c.args.pairs.now.list.now c.args.r));
    }
