-- A search meets whom a chain of free particles leads to, each at one more than its
-- distance, and the level of the last in its queue is the greatest. Assumes nothing.
use Prim.Native.Nat.{ℕ, zero, suc, ◌+◌, ◌-◌, ◌≤◌, ◌<◌}
use native.Mathlib.Omega.{arith}
use mathlib.Core.Path.{◌≡◌, refl, sym, ◌∙◌, subst}
use mathlib.Core.Logic.{◌⊎◌, inl, inr}
use mathlib.Core.Bool.{Bool, true, false}
use mathlib.Core.List.{List, []}
use lib.Dec.{ltb}
use lib.ListN.{length, replicate, get_or-replicate, get_or-eq_default, length-replicate}
use lib.Seq.{get_or-set_same}
use borrow.Author.Tests.{ltb-true, ltb-false}
use Rattle.law.specs.Truth.{below_or, same_or}
use Rattle.matrix_shape.specs.Rows.{at}
use Rattle.order_definition.specs.Order.{Breadth, meet_all, spread, reach, depth}
use Rattle.order_definition.proofs.At.{At, first, at_nil, at_lt, at_fun, get_d_at, In}
use Rattle.order_definition.proofs.Free.{short, reach_sound}
use Rattle.order_demand3.specs.Demand.{Chain, stay, link, Chained, Fewest}
use Rattle.order_demand3.specs.Picks.{Open}
use Rattle.order_demand3.proofs.Levels.{chain_on, Grown, grown_back, Climbs, met_climbs, meet_all_next}

-- nb lists the other particles that a particle stores a block with
module _ (n : ℕ) (S : ℕ → ℕ → Type 0) (nb : ℕ → List ℕ) (stored : (v w : ℕ) → v < n → In w (nb v) → S v w) (listed : (v w : ℕ) → v < n → S v w
    → (v ≡ w → ⊥) → In w (nb v))
    (near : (v w : ℕ) → v < n → In w (nb v) → w < n) (free : ℕ → Bool) (s : ℕ) (lt : s < n) (fr : free s ≡ true) where
  abbrev L : ℕ → ℕ → Type 0
  L = Open free S

  -- v's links lead to those met, at most one level further
  abbrev Closed : Breadth → ℕ → Type 0
  Closed r v = (w : ℕ) → L v w → In w r.queue × (at r.level w ≤ suc (at r.level v))

  -- once h places are done with: those in them are closed, and no level is more than one above that of whoever stands at place h
  record Stage (h : ℕ) (r : Breadth) : Type 0 where
    pub top : ℕ
    pub climbs : Climbs n S free s top r
    pub start : At r.queue 0 s × (at r.level s ≡ 1)
    pub wait : (v w : ℕ) → At r.queue h v → In w r.queue → at r.level w ≤ suc (at r.level v)
    pub closed : (i v : ℕ) → i < h → At r.queue i v → Closed r v

  module _ (h : ℕ) (r : Breadth) (below : (w : ℕ) → In w r.queue → w < n) (st : Stage h r) (inside : h < length r.queue) where
    abbrev v : ℕ
    v = at r.queue h

    abbrev k : ℕ
    k = at r.level v

    abbrev q : Breadth
    q = meet_all free (suc k) r (nb v)

    here : At r.queue h v
    here = get_d_at r.queue h 0 inside

    c : Climbs n S free s k r
    c = record { long = st.climbs.long; path = st.climbs.path; known = st.climbs.known; upto = λ w b. st.wait v w here b; rise = st.climbs.rise }

    chain : (w : ℕ) → In w (nb v) → free w ≡ true → Chain L s w k
    chain w a f =
        let p = c.path v (h, here) in
        subst (λ (j : ℕ). Chain L s w j) (sym p.1) (chain_on p.2 (stored v w (below v (h, here)) a, f))

    m : (Climbs n S free s k q × Grown r q) × ((w : ℕ) → In w (nb v) → free w ≡ true → In w q.queue)
    m = meet_all_next n S free s k r (nb v) (λ w a. (near v w (below v (h, here)) a, λ f. chain w a f)) c

    kept : at q.level v ≡ k
    kept = m.0.1.kept v (h, here)

    own_closed : Closed q v
    own_closed w l = go (same_or v w)
      where
        met_one : In w q.queue → In w q.queue × (at q.level w ≤ suc (at q.level v))
        met_one a = (a, omega (arith, kept, m.0.0.upto w a))

        go : (v ≡ w) ⊎ (v ≡ w → ⊥) → In w q.queue × (at q.level w ≤ suc (at q.level v))
        go (inl e) = met_one (h, subst (λ (x : ℕ). At q.queue h x) e (m.0.1.front h v here))
        go (inr ne) = met_one (m.1 w (listed v w (below v (h, here)) l.0 ne) l.1)

    closed' : (i x : ℕ) → At q.queue i x → (i < h) ⊎ (h ≤ i) → i < suc h → Closed q x
    closed' i x a (inl lt) b w l =
        let old = grown_back r q m.0.1 i x (omega arith) a in
        let t = st.closed i x lt old w l in
        ((t.0.0, m.0.1.front t.0.0 w t.0.1), omega (arith, t.1, m.0.1.kept w t.0, m.0.1.kept x (i, old)))
    closed' i x a (inr le) b w l =
        let e : i ≡ h = omega arith in
        subst (λ (y : ℕ). Closed q y) (at_fun (m.0.1.front h v here) (subst (λ (j : ℕ). At q.queue j x) e a)) own_closed w l

    spread_in : Stage (suc h) q
    spread_in = record {
      top = k;
      climbs = m.0.0;
      start = (m.0.1.front 0 s st.start.0, m.0.1.kept s (0, st.start.0) ∙ st.start.1);
      wait = λ x w b i. omega (arith, kept, m.0.0.upto w i, m.0.0.rise h (suc h) v x (m.0.1.front h v here) b (omega arith));
      closed = λ i x b a. closed' i x a (below_or i h) b;
    }

  spread_stage : (h : ℕ) (r : Breadth) → ((w : ℕ) → In w r.queue → w < n) → Stage h r → Stage (suc h) (spread nb free r h)
  spread_stage h r below st = go (ltb h (length r.queue)) refl
    where
      go : (b : Bool) → ltb h (length r.queue) ≡ b
          → Stage (suc h) (elim b [ true ↦ let v = at r.queue h in meet_all free (suc (at r.level v)) r (nb v) | false ↦ r ])
      go true p = spread_in h r below st (ltb-true h (length r.queue) p)
      go false p =
          let full = ltb-false h (length r.queue) p in
          record {
            top = st.top;
            climbs = st.climbs;
            start = st.start;
            wait = λ x w b i. let m = at_lt b in absurd (omega arith);
            closed = λ i x b a. let m = at_lt a in st.closed i x (omega arith) a;
          }

  long : length {A = ℕ} (replicate n 0) ≡ n
  long = length-replicate n 0

  zeros : (w : ℕ) → at (replicate n 0) w ≡ 0
  zeros w = go (below_or w n)
    where
      go : (w < n) ⊎ (n ≤ w) → at (replicate n 0) w ≡ 0
      go (inl l) = get_or-replicate n w 0 0 l
      go (inr l) = get_or-eq_default (replicate n 0) 0 (omega (arith, long))

  none : Climbs n S free s 0 (record { queue = []; level = replicate n 0 })
  none = record {
    long = long;
    path = λ w a. absurd (at_nil a.1);
    known = λ w p. absurd (omega (arith, zeros w));
    upto = λ w a. absurd (at_nil a.1);
    rise = λ i j v w a b le. absurd (at_nil a);
  }

  reach_stage : (h : ℕ) → Stage h (reach nb n free s h)
  unfolding reach
  reach_stage zero =
      let c = met_climbs n S free s 0 (record { queue = []; level = replicate n 0 }) s lt none (zeros s) stay in
      record {
        top = 0;
        climbs = c;
        start = (first refl, get_or-set_same (replicate n 0) s 1 0 (omega (arith, long)));
        wait = λ v w a b. omega (arith, c.upto w b);
        closed = λ i v l a. absurd (omega arith);
      }
  reach_stage (suc h) = spread_stage h (reach nb n free s h) (reach_sound nb n free near s lt fr h).below (reach_stage h)

  abbrev R : Breadth
  R = reach nb n free s n

  all_closed : (v : ℕ) → In v R.queue → Closed R v
  all_closed v a = let l = at_lt a.1 in (reach_stage n).closed a.0 v (omega (arith, short nb n free R (reach_sound nb n free near s lt fr n))) a.1

  follow : (v w k : ℕ) → In v R.queue → Chain L v w k → In w R.queue × (at R.level w ≤ at R.level v + k)
  follow v w k a stay = (a, omega arith)
  follow v w k a (link {b = x} {k = j} l c) =
      let t = all_closed v a x l in
      let u = follow x w j t.0 c in
      (u.0, omega (arith, t.1, u.1))

  pub meets : (w : ℕ) → Chained L s w → In w R.queue
  meets w c = (follow s w c.0 (0, (reach_stage n).start.0) c.1).0

  pub measured : (w : ℕ) → In w R.queue → (k : ℕ) × (at R.level w ≡ suc k) × Fewest L s w k
  measured w a =
      let p = (reach_stage n).climbs.path w a in
      (p.0, p.1, (p.2, λ k c. omega (arith, p.1, (follow s w k (0, (reach_stage n).start.0) c).1, (reach_stage n).start.1)))

  pub last_level : (w : ℕ) → In w R.queue → at R.level w ≤ depth nb n R
  last_level w a =
      let m = at_lt a.1 in
      let z = length R.queue - 1 in
      (reach_stage n).climbs.rise a.0 z w (at R.queue z) a.1 (get_d_at R.queue z 0 (omega arith)) (omega arith)
