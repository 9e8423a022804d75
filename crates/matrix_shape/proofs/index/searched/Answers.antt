use native.Mathlib.Omega.{arith}
use Rattle.std.specs.Prelude.{ℕ, ◌-◌, ◌<◌, ◌≤◌}
use mathlib.Core.Path.{◌≡◌}
use Rattle.matrix_shape.specs.Halving.{halved}
use Rattle.matrix_shape.specs.Search.{kept, Searched}
use Rattle.matrix_shape.proofs.Search.{searched_all, searched_half, searched_four, search_none, search_hit, search_miss}
use Rattle.matrix_shape.proofs.index.searched.Goals as goal

pub returns-then-b-a : goal.returns-then-b-a
returns-then-b-a c = search_none _ _ _ _ c.if-b-a.true

pub loop-size-init : goal.loop-size-init
loop-size-init c = searched_all _ _ _ _ c.if-b-a.false

pub one-low-requires : goal.one-low-requires
one-low-requires c =
    (c.loop-size.invariant.some, omega (arith, c.loop-size.invariant.last, c.requires.0))

pub loop-size-preserved : goal.loop-size-preserved
loop-size-preserved c = rw c.one-low.ensures (searched_half _ _ _ _ _ _ c.loop-size.invariant)

pub near-slot-requires : goal.near-slot-requires
near-slot-requires c =
    (c.loop-size.invariant.some, c.loop-size-test.false, omega (arith, c.loop-size.invariant.last, c.requires.0))

-- one slot is left, below b
left_is : (f : ℕ → ℕ) (a b col low size r : ℕ) → r ≡ halved f col 4 low size → size ≤ 16 → Searched f a b col low size
    → (r ≡ kept f col a (b - a)) × (r < b)
left_is f a b col low size r e few s = rw e (searched_four f a b col low size few s)

pub offset_bounds-cols-slot : goal.offset_bounds-cols-slot
offset_bounds-cols-slot c =
    omega (arith, (left_is _ _ _ _ _ _ _ c.near-slot.ensures c.loop-size-test.false c.loop-size.invariant).1, c.requires.1)

pub bounds-cols-slot : goal.bounds-cols-slot
bounds-cols-slot c =
    omega (arith, (left_is _ _ _ _ _ _ _ c.near-slot.ensures c.loop-size-test.false c.loop-size.invariant).1, c.requires.0)

pub returns-then-cols-slot : goal.returns-then-cols-slot
returns-then-cols-slot c =
    search_miss _ _ _ _ _ c.if-b-a.false (left_is _ _ _ _ _ _ _ c.near-slot.ensures c.loop-size-test.false c.loop-size.invariant).0
    c.if-cols-slot.true

pub overflow_cast-result : goal.overflow_cast-result
overflow_cast-result c =
    omega (arith, (left_is _ _ _ _ _ _ _ c.near-slot.ensures c.loop-size-test.false c.loop-size.invariant).1, c.requires.1)

pub returns : goal.returns
returns c =
    search_hit _ _ _ _ _ c.if-b-a.false (left_is _ _ _ _ _ _ _ c.near-slot.ensures c.loop-size-test.false c.loop-size.invariant).0
    c.if-cols-slot.false
