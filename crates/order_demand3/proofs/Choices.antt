-- Laws of choosing a start: one at most is chosen, and it is the same however those who are not placed are told. Assumes nothing.
use Prim.Native.Nat.{ℕ, zero, suc, ◌≤◌, ◌<◌}
use native.Mathlib.Omega.{arith}
use mathlib.Core.Path.{◌≡◌, sym, subst}
use mathlib.Core.Logic.{◌⊎◌, inl, inr}
use Rattle.law.specs.Truth.{below_or}
use Rattle.order_demand3.specs.Demand.{Chain, stay, link}
use Rattle.order_demand3.specs.Keys.{Least}
use Rattle.order_demand3.specs.Starts.{Away, Depth, Far, Trail, begin, move, Chosen}
use Rattle.order_demand3.proofs.Chosen.{least_as, least_one}

module _ (n : ℕ) (S : ℕ → ℕ → Type 0) (d : ℕ → ℕ) (U : ℕ → Type 0) where
  abbrev A : ℕ → ℕ → ℕ → Type 0
  A = Away n S d U

  abbrev D : ℕ → ℕ → Type 0
  D = Depth n S d U

  abbrev F : ℕ → ℕ → ℕ → Type 0
  F = Far n S d U

  abbrev T : ℕ → ℕ → Type 0
  T = Trail n S d U

  abbrev C : ℕ → Type 0
  C = Chosen n S d U

  abbrev P : ℕ → Type 0
  P v = (v < n) × U v

  depth_one : (s i j : ℕ) → D s i → D s j → i ≡ j
  depth_one s i j p q = omega (arith, p.1 q.0.0 j q.0.1, q.1 p.0.0 i p.0.1)

  far_one : (s i j f g : ℕ) → F s i f → F s j g → f ≡ g
  far_one s i j f g p q =
      least_one d (λ w. A s w i) f g p.far (subst (λ (k : ℕ). Least d (λ w. A s w k) g) (depth_one s j i q.deep p.deep) q.far)

  trail_one : (m s t : ℕ) → T m s → T m t → s ≡ t
  trail_one zero s t (begin p) (begin q) = least_one d P s t p q
  trail_one (suc m) s t (move {s = x} {k = i} p f e l) (move {s = y} {k = j} q g e' l') =
      far_one x i j s t f (subst (λ (v : ℕ). F v j t) (sym (trail_one m x y p q)) g)

  -- s has a far node that is deeper
  abbrev Goes : ℕ → Type 0
  Goes s = (k f j : ℕ) × F s k f × D f j × (k < j)

  -- whoever moves more often moves on from where the other stands
  goes_on : (m l s t : ℕ) → m < l → T m s → T l t → Goes s
  goes_on m zero s t lt p q = absurd (omega arith)
  goes_on m (suc l) s t lt p (move {s = x} {k = k} {j = j} q f e h) = go (below_or m l) (λ le. goes_on m l s x le p q)
    where
      go : (m < l) ⊎ (l ≤ m) → (m < l → Goes s) → Goes s
      go (inl le) rest = rest le
      go (inr le) rest =
          let same : l ≡ m = omega arith in
          subst Goes (trail_one m x s (subst (λ (i : ℕ). T i x) same q) p) (k, t, j, f, e, h)

  no_further : (s t : ℕ) (p : C s) (q : C t) → p.moves < q.moves → ⊥
  no_further s t p q lt =
      let a = goes_on p.moves q.moves s t lt p.trail q.trail in
      let b = p.stopped (omega (arith, q.most)) in
      let e = depth_one s a.0 b.0 a.3.deep b.3.deep in
      let c = far_one s a.0 b.0 a.1 b.1 a.3 b.3 in
      let h = depth_one b.1 a.2 b.2 (subst (λ (f : ℕ). D f a.2) c a.4) b.4 in
      omega (arith, a.5, b.5)

  pub chosen_one : (s t : ℕ) → C s → C t → s ≡ t
  chosen_one s t p q = go (below_or p.moves q.moves) (below_or q.moves p.moves)
    where
      go : (p.moves < q.moves) ⊎ (q.moves ≤ p.moves) → (q.moves < p.moves) ⊎ (p.moves ≤ q.moves) → s ≡ t
      go (inl l) b = absurd (no_further s t p q l)
      go (inr l) (inl m) = absurd (no_further t s q p m)
      go (inr l) (inr m) =
          let e : q.moves ≡ p.moves = omega arith in
          trail_one p.moves s t p.trail (subst (λ (i : ℕ). T i t) e q.trail)

chain_as : {R Q : ℕ → ℕ → Type 0} → ((a b : ℕ) → R a b → Q a b) → {a b k : ℕ} → Chain R a b k → Chain Q a b k
chain_as f stay = stay
chain_as f (link {a = a} {b = b} l c) = link (f a b l) (chain_as f c)

module _ (n : ℕ) (S : ℕ → ℕ → Type 0) (d : ℕ → ℕ) (U W : ℕ → Type 0) (there : (v : ℕ) → U v → W v) (back : (v : ℕ) → W v → U v) where
  away_there : (s w k : ℕ) → A n S d U s w k → A n S d W s w k
  away_there s w k a = (chain_as (λ x y l. (l.0, there y l.1)) a.0, λ j c. a.1 j (chain_as (λ x y l. (l.0, back y l.1)) c))

  away_back : (s w k : ℕ) → A n S d W s w k → A n S d U s w k
  away_back s w k a = (chain_as (λ x y l. (l.0, back y l.1)) a.0, λ j c. a.1 j (chain_as (λ x y l. (l.0, there y l.1)) c))

  depth_as : (s k : ℕ) → D n S d U s k → D n S d W s k
  depth_as s k p = ((p.0.0, away_there s p.0.0 k p.0.1), λ w j a. p.1 w j (away_back s w j a))

  far_as : (s k f : ℕ) → F n S d U s k f → F n S d W s k f
  far_as s k f h = record {
    deep = depth_as s k h.deep;
    far = least_as d (λ w. A n S d U s w k) (λ w. A n S d W s w k) f h.far (λ w a. away_there s w k a) (λ w a. away_back s w k a);
  }

  trail_as : (m s : ℕ) → T n S d U m s → T n S d W m s
  trail_as zero s (begin p) = begin (least_as d (P n S d U) (P n S d W) s p (λ v h. (h.0, there v h.1)) (λ v h. (h.0, back v h.1)))
  trail_as (suc m) s (move {s = x} {k = k} {j = j} t f e l) = move (trail_as m x t) (far_as x k s f) (depth_as s j e) l

  pub chosen_as : (s : ℕ) → Chosen n S d U s → Chosen n S d W s
  chosen_as s c = record {
    moves = c.moves;
    trail = trail_as c.moves s c.trail;
    most = c.most;
    stopped = λ l. let t = c.stopped l in (t.0, t.1, t.2, far_as s t.0 t.1 t.3, depth_as t.1 t.2 t.4, t.5);
  }
