-- THE LOAD: the lower triangle of the permuted matrix in the envelope, +0.0 in every other place, as the code stores it. t and c are the pattern's row
-- starts and columns, p the inverse order, f and s the plan's first columns and row starts. What stands where, Permuted.antt says without places.
use Rattle.std.specs.Prelude.{ℕ, ◌+◌, ◌-◌, ◌*◌, ◌≤◌, ◌<◌, ◌≡◌, refl, cond, List, ltb, length, set, replicate, Float}
use Rattle.std.proofs.Common.{arith}
use Rattle.law.specs.Loop.{over}
use Rattle.plane.specs.Plane.{Block, x, y, c0, c1, zero32}
use Rattle.plane.specs.Lent.{block_at}
use Rattle.matrix_shape.specs.Rows.{at, Rows, Pattern, row_end, rows_of}
use Rattle.plan_fits.specs.Fits.{Inside, Fits}
use Rattle.plan_fits.specs.Lists.{Laid, Placed}
use Rattle.plan_fits.specs.Cells.{skyline_of, Cell, Drawn, held, corner, corner_last, place_small}

-- a block left of the diagonal: its upper left entry goes to the place `up`, its lower left one to the place `down`
unfoldable pub beside_of : Block → ℕ → ℕ → List Float → List Float
beside_of b up down v = set (set (set (set v up (x (c0 b))) (up + 1) (x (c1 b))) down (y (c0 b))) (down + 1) (y (c1 b))

-- a block on the diagonal: its upper right entry is none of the triangle's
unfoldable pub corner_of : Block → ℕ → ℕ → List Float → List Float
corner_of b up down v = set (set (set v up (x (c0 b))) down (y (c0 b))) (down + 1) (y (c1 b))

-- slot k of a row at position i, whose two rows start at column `low`, at the places `upper` and `lower`. A block above the diagonal is left out
unfoldable pub slot_into : (ℕ → ℕ) → List Float → (ℕ → ℕ) → ℕ → ℕ → ℕ → ℕ → ℕ → List Float → List Float
slot_into c blocks p i low upper lower k v =
    let j = p (c k) in
    let off = 2 * j - low in
    let b = block_at blocks k in
    cond (ltb i j) v (cond (ltb j i) (beside_of b (upper + off) (lower + off) v) (corner_of b (upper + off) (lower + off) v))

-- the slots a..b of that row
unfoldable pub slots_into : (ℕ → ℕ) → List Float → (ℕ → ℕ) → ℕ → ℕ → ℕ → ℕ → ℕ → ℕ → List Float → List Float
slots_into c blocks p i low upper lower a b v = over (slot_into c blocks p i low upper lower) a b v

-- block row r
unfoldable pub row_into : (ℕ → ℕ) → (ℕ → ℕ) → List Float → (ℕ → ℕ) → (ℕ → ℕ) → (ℕ → ℕ) → ℕ → List Float → List Float
row_into t c blocks p f s r v = slots_into c blocks p (p r) (f (2 * p r)) (s (2 * p r)) (s (2 * p r + 1)) (t r) (t (r + 1)) v

-- THE LOAD of n particles
unfoldable pub load_of : ℕ → (ℕ → ℕ) → (ℕ → ℕ) → List Float → (ℕ → ℕ) → (ℕ → ℕ) → (ℕ → ℕ) → List Float
load_of n t c blocks p f s = over (row_into t c blocks p f s) 0 n (replicate (s (2 * n)) zero32)

-- ---- what the code asks

-- the places of a block's entries
pub record Spot (up down room : ℕ) : Type 0 where
  pub upper : up + 1 < room
  pub lower : down + 1 < room

-- slot k of a row at position i: its block, its column's position, and where its block lies below the diagonal or on it the places of its entries
pub record Slot (cols : List ℕ) (blocks : List Float) (inverse : List ℕ) (i low upper lower room k : ℕ) : Type 0 where
  pub column : k < length cols
  pub block : 4 * k + 3 < length blocks
  pub mark : at cols k < length inverse
  pub few : at inverse (at cols k) < 4294967296
  pub small : upper < 4294967296
  pub deep : lower < 4294967296
  pub left : at inverse (at cols k) ≤ i → low ≤ 2 * at inverse (at cols k)
  pub spot : at inverse (at cols k) ≤ i → Spot (upper + (2 * at inverse (at cols k) - low)) (lower + (2 * at inverse (at cols k) - low)) room

-- what the load asks of pattern, blocks and plan
pub record Loads (n : ℕ) (starts cols : List ℕ) (blocks : List Float) (inverse first begins : List ℕ) : Type 0 where
  pub rows : Rows n starts cols
  pub room : 4 * at starts n ≤ length blocks
  pub placed : Placed n inverse first
  pub drawn : Drawn (2 * n) first begins
  pub same : (i : ℕ) → i < n → at first (2 * i) ≡ at first (2 * i + 1)
  pub inside : Inside n (at starts) (at cols) (at inverse) (at first)

-- a well formed pattern and a plan that fits it have it all
pub loads_of : {n : ℕ} {starts cols diagonal : List ℕ} {blocks : List Float} {order inverse first begins : List ℕ} → Pattern n starts cols diagonal
    → Laid n order inverse first begins
    → Fits n (at starts) (at cols) (at order) (at inverse) (at first) (at begins) → 4 * at starts n ≤ length blocks
    → Loads n starts cols blocks inverse first begins
loads_of {n} {starts} {cols} {diagonal} p l w h = record {
  rows = rows_of n starts cols diagonal p;
  room = h;
  placed = record { marks = l.marks; firsts = l.firsts; position = w.planned.position };
  drawn = record { few = omega (arith, l.few); firsts = l.firsts; begins = l.begins; skyline = skyline_of w.planned };
  same = w.planned.same;
  inside = w.inside;
}

-- and each slot of block row r what it asks
pub slot_of : {n room : ℕ} {starts cols : List ℕ} {blocks : List Float} {inverse first begins : List ℕ} → Loads n starts cols blocks inverse first
    begins → room ≡ at begins (2 * n)
    → (r k : ℕ) → r < n → at starts r ≤ k → k < at starts (r + 1)
    → Slot cols blocks inverse (at inverse r) (at first (2 * at inverse r)) (at begins (2 * at inverse r)) (at begins (2 * at inverse r + 1)) room k
slot_of {n} {room} {starts} {cols} {blocks} {inverse} {first} {begins} w whole r k l h g =
    let i = at inverse r in
    let j = at inverse (at cols k) in
    let sky = w.drawn.skyline in
    let position : i < n = w.placed.position r l in
    let below : at cols k < n = w.rows.below r k l (h, g) in
    let last = row_end n (at starts) w.rows.rise r l in
    let inside : j ≤ i → at first (2 * i) ≤ 2 * j = w.inside r (at cols k) l (k, ((h, g), refl)) in
    record {
      column = omega (arith, w.rows.columns);
      block = omega (arith, w.room);
      mark = omega (arith, w.placed.marks);
      few = omega (arith, w.placed.position (at cols k) below, w.rows.few);
      small = omega (arith, place_small w.drawn (corner sky (2 * i) (omega arith)));
      deep = omega (arith, place_small w.drawn (corner sky (2 * i + 1) (omega arith)));
      left = inside;
      spot = λ u.
          let low = inside u in
          let same = w.same i position in
          let cell : Cell (2 * n) (at first) (2 * i + 1) (2 * j + 1) = record { row = omega arith; left = omega (arith, same); upto = omega arith } in
          let lower = held sky cell in
          record { upper = omega (arith, corner_last sky (2 * i) (omega arith), same, lower); lower = omega (arith, same, lower) };
    }
