use mathlib.Core.Path.{◌≡◌}
use lib.ListN.{length, take}
use Prim.Native.Nat.{◌+◌, ◌<◌, zero-le}
use native.Mathlib.Omega.{arith}
use Rattle.std.proofs.Common.{length-append, get_or-take, length-take-le}
use Rattle.std.proofs.lemmas.Slice.Zip.{zip_turn, zip_end}
use Rattle.law.specs.Store.{part, part_at, length_part}
use Rattle.law.proofs.Every.{every_none, every_more}
use Rattle.matrix_walk.proofs.rows.ends_ok.Goals as goal

pub loop-cursor-init : goal.loop-cursor-init
loop-cursor-init c = every_none _ 0

pub loop-cursor-preserved : goal.loop-cursor-preserved
loop-cursor-preserved c =
    let k = length c.loop-cursor.yielded in
    let starts = c.args.row_offsets.now in
    let at = zip_turn (take c.args.n c.args.next.now) (part 1 (c.args.n + 1) starts) c.loop-cursor.yielded _ _ c.next.new.self _ (cc) (cc) c.loop-cursor.yielded_by _ c.in-Some.is
    c.next.ensures.steps in
    let less : k < c.args.n = omega (arith, at.0, length-take-le c.args.n c.args.next.now c.requires.1) in
    let one : 1 + k ≡ k + 1 = omega arith in
    rw length-append (rw (at.2 0, at.3 0, get_or-take c.args.n c.args.next.now k 0 less, part_at 1 (c.args.n + 1) starts k 0 (omega arith), one, c.loop-cursor.invariant)
    (every_more _ 0 _ zero-le))

pub returns : goal.returns
returns c =
    let starts = c.args.row_offsets.now in
    let e = zip_end (take c.args.n c.args.next.now) (part 1 (c.args.n + 1) starts) c.loop-cursor.yielded _ _ c.next.new.self _ (cc) (cc) c.loop-cursor.yielded_by c.in-None.is
    c.next.ensures.steps in
    let all : length c.loop-cursor.yielded ≡ c.args.n = omega
    (arith, e, length-take-le c.args.n c.args.next.now c.requires.1, length_part 1 (c.args.n + 1) starts (omega arith) (omega arith)) in
    rw all at c.loop-cursor.invariant
