-- What the ordering of every well formed pattern picks and sorts. Assumes nothing.
use Prim.Native.Nat.{ℕ, ◌+◌, ◌-◌, ◌<◌}
use native.Mathlib.Omega.{arith}
use mathlib.Core.Path.{◌≡◌, refl, sym, ap}
use mathlib.Core.Bool.{Bool, true, not}
use mathlib.Core.List.{List}
use lib.Dec.{eqb}
use lib.ListN.{length, take}
use borrow.Author.Tests.{eqb-true, eqb-false, eq-eqb, not-true}
use Rattle.law.specs.Truth.{untrue}
use Rattle.matrix_shape.specs.Formed.{Stored}
use Rattle.matrix_shape.specs.Rows.{at, Pattern}
use Rattle.order_definition.specs.Order.{among, passing, numbers, least, row, neighbours, degree, Breadth, reach, depth, far_of, fresh}
use Rattle.order_definition.specs.Tight.{Tight, tight_of}
use Rattle.order_definition.proofs.At.{get_d_at, In}
use Rattle.order_definition.proofs.Pigeon.{Distinct, among_true, among_false, in_numbers, numbers_below}
use Rattle.order_definition.proofs.Lists.{passing_in, in_passing, passing_distinct}
use Rattle.order_definition.proofs.Free.{reach_sound}
use Rattle.order_definition.proofs.Rows as rows
use Rattle.order_demand3.specs.Keys.{Holds, InKeyOrder, Least}
use Rattle.order_demand3.specs.Picks.{Unplaced, InLast, Reached, Picks}
use Rattle.order_demand3.proofs.Blocks.{nb_stored, stored_nb}
use Rattle.order_demand3.proofs.Sorted.{held_in, in_held, distinct_once, sorts}
use Rattle.order_demand3.proofs.Chosen.{least_of, least_as}
use Rattle.order_demand3.proofs.Distances.{meets, measured, last_level}

-- ---- of any graph

module _ (n : ℕ) (nb : ℕ → List ℕ) where
  abbrev open_of : List ℕ → ℕ → Bool
  open_of placed = λ v. not (among placed v)

  pub unplaced_open : (placed : List ℕ) (w : ℕ) → (Holds placed w → ⊥) → open_of placed w ≡ true
  unplaced_open placed w f = ap not (untrue (among placed w) (λ (p : among placed w ≡ true). f (in_held placed w (among_true placed w p))))

  pub open_unplaced : (placed : List ℕ) (w : ℕ) → open_of placed w ≡ true → Holds placed w → ⊥
  open_unplaced placed w p h = among_false placed w (not-true (among placed w) p) (held_in placed w h)

  begins : (placed : List ℕ) (w : ℕ) → Unplaced n placed w → Least (degree nb) (Unplaced n placed)
      (least n (degree nb) (passing (open_of placed) (numbers n)))
  begins placed w h = least_as (degree nb) (λ v. In v (passing (open_of placed) (numbers n))) (Unplaced n placed) _
      (least_of (degree nb) n (passing (open_of placed) (numbers n)) w (there w h)) back there
    where
      there : (v : ℕ) → Unplaced n placed v → In v (passing (open_of placed) (numbers n))
      there v h = in_passing (open_of placed) (numbers n) v (in_numbers n v h.0) (unplaced_open placed v h.1)

      back : (v : ℕ) → In v (passing (open_of placed) (numbers n)) → Unplaced n placed v
      back v a = let p = passing_in (open_of placed) (numbers n) v a in (numbers_below n v p.0, open_unplaced placed v p.1)

  far_of_lem : (r : Breadth) → 0 < length r.queue → Least (degree nb) (InLast nb n r) (far_of nb n r)
  far_of_lem r some = least_as (degree nb) (λ v. In v (passing t r.queue)) (InLast nb n r) _ (least_of (degree nb) n (passing t r.queue) x
      (there x (in_held r.queue x a, refl))) back there
    where
      t : ℕ → Bool
      t w = eqb (at r.level w) (depth nb n r)

      -- the last in the queue is in the last level
      x : ℕ
      x = at r.queue (length r.queue - 1)

      a : In x r.queue
      a = (length r.queue - 1, get_d_at r.queue (length r.queue - 1) 0 (omega arith))

      there : (v : ℕ) → InLast nb n r v → In v (passing t r.queue)
      there v h = in_passing t r.queue v (held_in r.queue v h.0) (eq-eqb (at r.level v) (depth nb n r) h.1)

      back : (v : ℕ) → In v (passing t r.queue) → InLast nb n r v
      back v b = let p = passing_in t r.queue v b in (in_held r.queue v p.0, eqb-true (at r.level v) (depth nb n r) p.1)

-- ---- of a well formed pattern, in the lists that hold it

module _ (n : ℕ) (starts cols diagonal : List ℕ) (p : Pattern n starts cols diagonal) where
  abbrev s : List ℕ
  s = take (n + 1) starts

  abbrev c : List ℕ
  c = take (at starts n) cols

  abbrev nb : ℕ → List ℕ
  nb = neighbours s c

  abbrev S : ℕ → ℕ → Type 0
  S = Stored (at starts) (at cols)

  t : Tight n s c
  t = tight_of n starts cols diagonal p

  -- no particle is its own neighbour, and none is one twice
  nb_other : (v w : ℕ) → In w (nb v) → v ≡ w → ⊥
  unfolding neighbours
  nb_other v w a e = eqb-false w v (not-true (eqb w v) (passing_in (λ x. not (eqb x v)) (row s c v) w a).1) (sym e)

  nb_distinct : (v : ℕ) → v < n → Distinct (nb v)
  unfolding neighbours
  nb_distinct v lt = passing_distinct (λ x. not (eqb x v)) (row s c v) (rows.row_distinct n s c t v lt)

  module _ (placed : List ℕ) (v : ℕ) (lt : v < n) where
    abbrev Added : ℕ → Type 0
    Added w = S v w × (v ≡ w → ⊥) × (Holds placed w → ⊥)

    abbrev unplaced : List ℕ
    unplaced = passing (open_of n nb placed) (nb v)

    just : (w : ℕ) → Holds unplaced w → Added w
    just w h =
        let m = passing_in (open_of n nb placed) (nb v) w (held_in unplaced w h) in
        (nb_stored n starts cols diagonal p v w lt m.0, nb_other v w m.0, open_unplaced n nb placed w m.1)

    all : (w : ℕ) → Added w → Holds unplaced w
    all w q = in_held unplaced w (in_passing (open_of n nb placed) (nb v) w (stored_nb n starts cols diagonal p v w lt q.0 q.1)
        (unplaced_open n nb placed w q.2))

    adds : InKeyOrder (degree nb) Added (fresh nb n placed v)
    unfolding fresh
    adds =
        let h = (sorts (degree nb)).strict unplaced (distinct_once unplaced (passing_distinct (open_of n nb placed) (nb v) (nb_distinct v lt))) in
        record { ascends = h.ascends; just = λ w a. just w (h.just w a); all = λ w q. h.all w (all w q) }

  module _ (free : ℕ → Bool) (v : ℕ) (lt : v < n) (fr : free v ≡ true) where
    abbrev r : Breadth
    r = reach nb n free v n

    near : (a b : ℕ) → a < n → In b (nb a) → b < n
    near = rows.near n s c t

    searches : Reached n S nb free v (reach nb n free v n)
    searches =
        let stored = nb_stored n starts cols diagonal p in
        let listed = stored_nb n starts cols diagonal p in
        record {
          meets = λ w j. in_held r.queue w (meets n S nb stored listed near free v lt fr w j);
          measured = λ w h. measured n S nb stored listed near free v lt fr w (held_in r.queue w h);
          last = λ w h. last_level n S nb stored listed near free v lt fr w (held_in r.queue w h);
          far = far_of_lem n nb r (reach_sound nb n free near v lt fr n).some;
        }

  pub picks : Picks n (Stored (at starts) (at cols)) (neighbours (take (n + 1) starts) (take (at starts n) cols))
  picks = record { begins = begins n nb; searches = searches; adds = adds }
