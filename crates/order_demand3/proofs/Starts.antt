-- The defined start of a stretch is the chosen one, and each stretch of the order begins there. Assumes nothing.
use Prim.Native.Nat.{ℕ, zero, suc, ◌+◌, ◌-◌, ◌<◌}
use native.Mathlib.Omega.{arith}
use mathlib.Core.Path.{◌≡◌, refl, sym, ap, ◌∙◌, subst}
use mathlib.Core.Logic.{inl, inr}
use mathlib.Core.Bool.{Bool, true, false, not}
use mathlib.Core.List.{List, reverse}
use lib.Dec.{leb}
use lib.ListN.{length, take, length-reverse}
use lib.Seq.{length-take-le, get_or-take}
use borrow.Author.Tests.{leb-true, leb-false}
use Rattle.matrix_shape.specs.Formed.{Stored}
use Rattle.matrix_shape.specs.Rows.{at, Pattern}
use Rattle.order_definition.specs.Order.{among, numbers, passing, least, neighbours, degree, Breadth, reach, depth, far_of, settle, choose_start}
use Rattle.order_definition.specs.Order.{start_after, fresh, placing, order_of}
use Rattle.order_definition.specs.Tight.{tight_of}
use Rattle.order_definition.proofs.At.{at_get_or, get_d_at, at_reverse, In}
use Rattle.order_definition.proofs.Free.{reach_sound, far_free, some_unplaced}
use Rattle.order_definition.proofs.Placed.{Adding}
use Rattle.order_definition.proofs.Rows as rows
use Rattle.order_demand3.specs.Demand.{stay, link, Last, order_in}
use Rattle.order_demand3.specs.Keys.{Holds, Least}
use Rattle.order_demand3.specs.Picks.{Unplaced, InLast, Reached}
use Rattle.order_demand3.specs.Starts.{more_searches, Away, Far, Trail, begin, move, Chosen, NotBehind, Starts}
use Rattle.order_demand3.proofs.Blocks.{given}
use Rattle.order_demand3.proofs.Chosen.{least_as}
use Rattle.order_demand3.proofs.Choices.{chosen_one, chosen_as}
use Rattle.order_demand3.proofs.Origins.{Origin, origin}
use Rattle.order_demand3.proofs.Final.{ordered_long}
use Rattle.order_demand3.proofs.Picks.{unplaced_open, open_unplaced, picks}

-- ---- of any graph

module _ (n : ℕ) (S : ℕ → ℕ → Type 0) (nb : ℕ → List ℕ) (free : ℕ → Bool) where
  abbrev A : ℕ → ℕ → ℕ → Type 0
  A = Away n S (degree nb) (λ v. free v ≡ true)

  abbrev F : ℕ → ℕ → ℕ → Type 0
  F = Far n S (degree nb) (λ v. free v ≡ true)

  abbrev C : ℕ → Type 0
  C = Chosen n S (degree nb) (λ v. free v ≡ true)

  abbrev P : ℕ → Type 0
  P v = (v < n) × (free v ≡ true)

  -- what a search from s found is the depth and the far node of s
  module _ (s : ℕ) (r : Breadth) (h : Reached n S nb free s r) where
    -- whoever is at a distance is met, at one level more
    level : (w j : ℕ) → A s w j → Holds r.queue w × (at r.level w ≡ suc j)
    level w j a =
        let m = h.meets w (j, a.0) in
        let q = h.measured w m in
        (m, omega (arith, q.1, q.2.1 j a.0, a.1 q.0 q.2.0))

    there : (k : ℕ) → depth nb n r ≡ suc k → (w : ℕ) → InLast nb n r w → A s w k
    there k e w i = let q = h.measured w i.0 in let same : q.0 ≡ k = omega (arith, q.1, i.1) in subst (λ (j : ℕ). A s w j) same q.2

    found : (k : ℕ) × (depth nb n r ≡ suc k) × F s k (far_of nb n r)
    found =
        let x = h.far.among in
        let m = h.measured (far_of nb n r) x.0 in
        let e : depth nb n r ≡ suc m.0 = sym x.1 ∙ m.1 in (
          m.0,
          e,
          record {
            deep = ((far_of nb n r, m.2), λ w j a. let l = level w j a in omega (arith, l.1, h.last w l.0));
            far = least_as (degree nb) (InLast nb n r) (λ w. A s w m.0) (far_of nb n r) h.far (there m.0 e)
                (λ w a. let l = level w m.0 a in (l.0, l.1 ∙ sym e));
          },
        )

  module _ (near : (v w : ℕ) → v < n → In w (nb v) → w < n) (searched : (s : ℕ) → s < n → free s ≡ true → Reached n S nb free s (reach nb n free s n)) where
    abbrev R : ℕ → Breadth
    R s = reach nb n free s n

    abbrev far : ℕ → ℕ
    far s = far_of nb n (R s)

    abbrev deep : ℕ → ℕ
    deep s = depth nb n (R s)

    abbrev Told : ℕ → Type 0
    Told s = (k : ℕ) × (deep s ≡ suc k) × F s k (far s)

    told : (s : ℕ) → P s → Told s
    told s p = found s (R s) (searched s p.0 p.1)

    -- where the start comes to from s, with k more searches
    abbrev rest : ℕ → ℕ → ℕ
    rest k s = settle nb n free k s (far s) (deep s)

    settled : (k m s : ℕ) → k + m ≡ more_searches → Trail n S (degree nb) (λ v. free v ≡ true) m s → P s → C (rest k s)
    unfolding settle
    settled zero m s e t p = record { moves = m; trail = t; most = omega (arith, e); stopped = λ l. absurd (omega (arith, e)) }
    settled (suc k) m s e t p =
        let q = far_free nb n free near (R s) (reach_sound nb n free near s p.0 p.1 n) in
        let g = told (far s) q in
        let h = told s p in
        go g h (leb (deep (far s)) (deep s)) refl (λ l. settled k (suc m) (far s) (omega (arith, e)) (move t h.2 g.2.deep l) q)
      where
        go : (g : Told (far s)) (h : Told s) (b : Bool) → leb (deep (far s)) (deep s) ≡ b → (h.0 < g.0 → C (rest k (far s))) → C
            (elim b [ true ↦ s | false ↦ rest k (far s) ])
        go g h true b on = record {
          moves = m;
          trail = t;
          most = omega (arith, e);
          stopped = λ l. (h.0, far s, g.0, h.2, g.2.deep, omega (arith, leb-true (deep (far s)) (deep s) b, h.1, g.1));
        }
        go g h false b on = on (omega (arith, leb-false (deep (far s)) (deep s) b, h.1, g.1))

    start_chosen : Least (degree nb) P (least n (degree nb) (passing free (numbers n))) → C (choose_start nb n free)
    unfolding choose_start
    start_chosen l = settled _ 0 _ refl (begin l) l.among

-- ---- of a well formed pattern, in the lists that hold it

module _ (n : ℕ) (starts cols diagonal : List ℕ) (p : Pattern n starts cols diagonal) where
  abbrev S : ℕ → ℕ → Type 0
  S = Stored (at starts) (at cols)

  abbrev s : List ℕ
  s = take (n + 1) starts

  abbrev c : List ℕ
  c = take (at starts n) cols

  abbrev nb : ℕ → List ℕ
  nb = neighbours s c

  module _ (placed : List ℕ) where
    abbrev free : ℕ → Bool
    free v = not (among placed v)

    abbrev Unheld : ℕ → Type 0
    Unheld v = Holds placed v → ⊥

    chosen : (w : ℕ) → Unplaced n placed w → Chosen n S (degree nb) Unheld (start_after nb n placed)
    chosen w u =
        let g = picks n starts cols diagonal p in
        let least = least_as (degree nb) (Unplaced n placed) (P n S nb free) _ (g.begins placed w u) (λ v h. (h.0, unplaced_open n nb placed v h.1))
        (λ v h. (h.0, open_unplaced n nb placed v h.1)) in
        chosen_as n S (degree nb) (λ v. free v ≡ true) Unheld (open_unplaced n nb placed) (unplaced_open n nb placed) _
        (start_chosen n S nb free (rows.near n s c (tight_of n starts cols diagonal p)) (g.searches free) least)

  abbrev start : List ℕ → ℕ
  start = start_after nb n

  abbrev o : List ℕ
  o = placing start (fresh nb n) n

  t : Adding n (start_after nb n) (fresh nb n)
  t = rows.adding n s c (tight_of n starts cols diagonal p)

  long : length (placing (start_after nb n) (fresh nb n) n) ≡ n
  long = sym (length-reverse o) ∙ ordered_long S n start (fresh nb n) (given n starts cols diagonal p)

  -- whoever stands at i in the placing stands at m in the order
  seen : (i m : ℕ) → suc (m + i) ≡ n → at (reverse o) m ≡ at o i
  seen i m e = at_get_or 0 (at_reverse (get_d_at o i 0 (omega (arith, long))) m (e ∙ sym long))

  module _ (k : ℕ) (last : Last n S (at (reverse o)) k) where
    abbrev j : ℕ
    j = n - suc k

    size : length (take j o) ≡ j
    size = length-take-le j o (omega (arith, long))

    -- those placed before stand behind k
    behind : (v : ℕ) → (Holds (take j o) v → ⊥) → NotBehind n (at (reverse o)) k v
    behind v f m km mn e =
        let i = n - suc m in
        f (i, omega (arith, size, last.0), get_or-take j o i 0 (omega (arith, last.0)) ∙ sym (seen i m (omega arith)) ∙ e)

    unheld : (v : ℕ) → NotBehind n (at (reverse o)) k v → Holds (take j o) v → ⊥
    unheld v f h =
        let i = h.0 in
        let lt : i < j = omega (arith, h.1, size) in
        f (n - suc i) (omega (arith, last.0)) (omega arith) (seen i (n - suc i) (omega arith) ∙ sym (get_or-take j o i 0 lt) ∙ h.2)

    begins : Chosen n S (degree nb) (NotBehind n (at (reverse o)) k) (at (reverse o) k)
    begins = go (origin S n start (fresh nb n) t (given n starts cols diagonal p).adds_stored n (omega arith) j (at o j) (get_d_at o j 0
        (omega (arith, long, last.0))))
      where
        u : (w : ℕ) × (w < n) × (among (take j o) w ≡ false)
        u = some_unplaced n (take j o) (omega (arith, size, last.0))

        one : Chosen n S (degree nb) (λ v. Holds (take j o) v → ⊥) (start (take j o))
        one = chosen (take j o) u.0 (u.1, open_unplaced n nb (take j o) u.0 (ap not u.2))

        here : at (reverse o) k ≡ at o j
        here = seen j k (omega (arith, last.0))

        go : Origin S n start (fresh nb n) t (given n starts cols diagonal p).adds_stored o j (at o j)
            → Chosen n S (degree nb) (NotBehind n (at (reverse o)) k) (at (reverse o) k)
        go (inl e) = subst (Chosen n S (degree nb) (NotBehind n (at (reverse o)) k)) (sym (here ∙ e))
            (chosen_as n S (degree nb) (λ v. Holds (take j o) v → ⊥) (NotBehind n (at (reverse o)) k) behind unheld _ one)
        go (inr x) =
            let m = n - suc x.0 in
            let there : at (reverse o) m ≡ x.1 = seen x.0 m (omega (arith, x.2)) ∙ at_get_or 0 x.4 in
            let back = p.formed.mirrored x.1 (at o j) x.3 x.5 in
            absurd (last.1 m (omega (arith, x.2)) (omega (arith, x.2)) (1, link (rw (here, there) back) stay))

  pub starts_chosen : Starts n (Stored (at starts) (at cols)) (neighbours (take (n + 1) starts) (take (at starts n) cols)) (at (order_in n starts cols))
  unfolding order_of
  starts_chosen = record { chosen = chosen; one = chosen_one n S (degree nb); begins = begins }
