use Rattle.std.specs.Prelude.{ℕ, List, ◌+◌, ◌≤◌, ◌<◌, ◌≡◌}
use Rattle.std.proofs.Common.{refl}
use native.Mathlib.Omega.{arith}
use lib.ListN.{length}
use Rattle.law.specs.Keep.{keep}
use Rattle.law.specs.Store.{written_long}
use Rattle.matrix_lists.specs.Ways.{apart}
use Rattle.matrix_lists.specs.Chain.{front_of}
use Rattle.matrix_build.specs.Swept.{Sweeping, sweep_none, sweep_room, sweep_more, sweep_done}
use Rattle.matrix_build.proofs.filling.sweep.Goals as goal

pub loop-c-init : goal.loop-c-init
loop-c-init c = let p = c.requires in sweep_none _ _ _ _ _ _ _ _ _ p.from_le_to.0 p.from_le_to.1 _ _ p.chain refl

-- a turn has room for its column
room : (n count : ℕ) (ps links : List ℕ) (r from to at : ℕ) (cols : List ℕ) → from ≤ to → to ≤ n → (rest slot : ℕ) (now : List ℕ) (c : ℕ)
    → Sweeping n count ps links r from to at cols rest slot now c → c < to → at + length (keep (apart ps count r) from to) ≤ length cols
    → slot < length now
room n count ps links r from to at cols order most rest slot now c s l fits = omega (
  arith,
  sweep_room n count ps links r from to at cols order most rest slot now c s l,
  fits,
  written_long _ _ _ _ s.stored,
)

pub offset_bounds-cols-slot : goal.offset_bounds-cols-slot
offset_bounds-cols-slot c =
    let p = c.requires in
    let f : c.in-Some.c ≡ front_of c.args.pairs.now.n c.args.pairs.now.list.now c.loop-c.rest = rw c.in-Some.is at (c.front.ensures c.args.pairs.now.n) in
    let q = room _ _ _ _ _ _ _ _ _ p.from_le_to.0 p.from_le_to.1 _ _ _ _ c.loop-c.invariant (omega arith) p.to_in_bounds in
    omega (arith, written_long _ _ _ _ c.loop-c.invariant.stored)

pub bounds-cols-slot : goal.bounds-cols-slot
bounds-cols-slot c =
    let p = c.requires in
    let f : c.in-Some.c ≡ front_of c.args.pairs.now.n c.args.pairs.now.list.now c.loop-c.rest = rw c.in-Some.is at (c.front.ensures c.args.pairs.now.n) in
    room _ _ _ _ _ _ _ _ _ p.from_le_to.0 p.from_le_to.1 _ _ _ _ c.loop-c.invariant (omega arith) p.to_in_bounds

pub overflow_add-slot : goal.overflow_add-slot
overflow_add-slot c =
    let p = c.requires in
    let f : c.in-Some.c ≡ front_of c.args.pairs.now.n c.args.pairs.now.list.now c.loop-c.rest = rw c.in-Some.is at (c.front.ensures c.args.pairs.now.n) in
    let q = room _ _ _ _ _ _ _ _ _ p.from_le_to.0 p.from_le_to.1 _ _ _ _ c.loop-c.invariant (omega arith) p.to_in_bounds in
    omega (arith, written_long _ _ _ _ c.loop-c.invariant.stored)

pub loop-c-smaller : goal.loop-c-smaller
loop-c-smaller c =
    let p = c.requires in
    let f : c.in-Some.c ≡ front_of c.args.pairs.now.n c.args.pairs.now.list.now c.loop-c.rest = rw c.in-Some.is at (c.front.ensures c.args.pairs.now.n) in
    let q = (sweep_more _ _ _ _ _ _ _ _ _ p.from_le_to.0 p.from_le_to.1 _ _ _ _ c.loop-c.invariant (omega arith) _ _ c.wide-rest.ensures.same refl).0 in
    omega arith

pub loop-c-preserved : goal.loop-c-preserved
loop-c-preserved c =
    let p = c.requires in
    let f : c.in-Some.c ≡ front_of c.args.pairs.now.n c.args.pairs.now.list.now c.loop-c.rest = rw c.in-Some.is at (c.front.ensures c.args.pairs.now.n) in
    rw f (sweep_more _ _ _ _ _ _ _ _ _ p.from_le_to.0 p.from_le_to.1 _ _ _ _ c.loop-c.invariant (omega arith) _ _ c.wide-rest.ensures.same refl).1

pub returns-then-to-c : goal.returns-then-to-c
returns-then-to-c c =
    let p = c.requires in
    let f : c.in-Some.c ≡ front_of c.args.pairs.now.n c.args.pairs.now.list.now c.loop-c.rest = rw c.in-Some.is at (c.front.ensures c.args.pairs.now.n) in
    sweep_done _ _ _ _ _ _ _ _ _ p.from_le_to.0 p.from_le_to.1 _ _ _ _ c.loop-c.invariant (omega arith)

pub returns-in_default : goal.returns-in_default
returns-in_default c =
    let p = c.requires in
    let f : c.args.pairs.now.n ≡ front_of c.args.pairs.now.n c.args.pairs.now.list.now c.loop-c.rest = c.in_default.ensures c.args.pairs.now.n in
    sweep_done _ _ _ _ _ _ _ _ _ p.from_le_to.0 p.from_le_to.1 _ _ _ _ c.loop-c.invariant (omega arith)
