-- Demand 3 carried over: it speaks of the first n places and the 2n rows alone, and of
-- stored blocks only where they start from particles below n. Assumes nothing.
use Prim.Native.Nat.{ℕ, ◌+◌, ◌*◌, ◌≤◌, ◌<◌}
use native.Mathlib.Omega.{arith}
use mathlib.Core.Path.{◌≡◌, sym, ◌∙◌}
use Rattle.order_demand3.specs.Demand.{Chain, stay, link, Chained, Fewest, Last, Ordered, Enveloped, Demand3}

-- S and T store the same blocks of the rows below n, all in columns below n
pub record Alike (n : ℕ) (S T : ℕ → ℕ → Type 0) : Type 0 where
  pub reaches : (a b : ℕ) → a < n → S a b → b < n
  pub there : (a b : ℕ) → a < n → S a b → T a b
  pub back : (a b : ℕ) → a < n → T a b → S a b

module _ {n : ℕ} {S T : ℕ → ℕ → Type 0} (w : Alike n S T) where
  chain_there : {a b k : ℕ} → a < n → Chain S a b k → Chain T a b k
  chain_there l stay = stay
  chain_there l (link {a = a} {b = b} s ch) = link (w.there a b l s) (chain_there (w.reaches a b l s) ch)

  chain_back : {a b k : ℕ} → a < n → Chain T a b k → Chain S a b k
  chain_back l stay = stay
  chain_back l (link {a = a} {b = b} t ch) = let s = w.back a b l t in link s (chain_back (w.reaches a b l s) ch)

  module _ {o q : ℕ → ℕ} (same : (i : ℕ) → i < n → q i ≡ o i) (h : Ordered n S o) where
    joined : (i j : ℕ) → i < n → j < n → Chained S (o i) (o j) → Chained T (q i) (q j)
    joined i j a b c = rw (same i a, same j b) (c.0, chain_there (h.below i a) c.1)

    unjoined : (i j : ℕ) → i < n → j < n → Chained T (q i) (q j) → Chained S (o i) (o j)
    unjoined i j a b c = let d = rw (same i a, same j b) at c in (d.0, chain_back (h.below i a) d.1)

    fewest : (i j d : ℕ) → i < n → j < n → Fewest S (o i) (o j) d → Fewest T (q i) (q j) d
    fewest i j d a b f = rw (same i a, same j b) (chain_there (h.below i a) f.0, λ k c. f.1 k (chain_back (h.below i a) c))

    unfewest : (i j d : ℕ) → i < n → j < n → Fewest T (q i) (q j) d → Fewest S (o i) (o j) d
    unfewest i j d a b f = let g = rw (same i a, same j b) at f in (chain_back (h.below i a) g.0, λ k c. g.1 k (chain_there (h.below i a) c))

    last : (k : ℕ) → Last n S o k → Last n T q k
    last k l = (l.0, λ m a b c. l.1 m a b (unjoined k m l.0 b c))

    unlast : (k : ℕ) → Last n T q k → Last n S o k
    unlast k l = (l.0, λ m a b c. l.1 m a b (joined k m l.0 b c))

    ordered_carried : Ordered n T q
    ordered_carried = record {
      below = λ i l. rw (same i l) (h.below i l);
      listed = λ p l. let t = h.listed p l in (t.0, t.1, same t.0 t.1 ∙ t.2);
      once = λ i j a b e. h.once i j a b (sym (same i a) ∙ e ∙ same j b);
      unbroken = λ i j k a b l c.
          let u : i < n = omega arith in
          let v : j < n = omega arith in
          let t = h.unbroken i j k a b l (unjoined i k u l c) in
          (joined i j u v t.0, joined j k v l t.1);
      stretch = λ i l. let t = h.stretch i l in (t.0, t.1, last t.0 t.2, joined i t.0 l t.2.0 t.3);
      measured = λ i k a l c.
          let u : i < n = omega (arith, l.0) in
          let t = h.measured i k a (unlast k l) (unjoined i k u l.0 c) in
          (t.0, fewest i k t.0 u l.0 t.1);
      back = λ i j k a b l c d e f g.
          let u : i < n = omega (arith, l.0) in
          let v : j < n = omega (arith, l.0) in
          h.back i j k a b (unlast k l) (unjoined i k u l.0 c) d e (unfewest i k d u l.0 f) (unfewest j k e v l.0 g);
    }

    module _ {f g s t : ℕ → ℕ} (first : (r : ℕ) → r < 2 * n → g r ≡ f r) (starts : (r : ℕ) → r ≤ 2 * n → t r ≡ s r) (e : Enveloped n S o f s) where
      enveloped_carried : Enveloped n T q g t
      enveloped_carried = record {
        inside = λ i j a b u v x y z l. rw (first (2 * i + a) (omega arith))
            (e.inside i j a b u v x y (w.back (o i) (o j) (h.below i u) (rw (same i u, same j v) at z)) l);
        has = λ r c u l m. rw (starts r (omega arith), starts (2 * n) (omega arith), first r u) (e.has r c u (rw (first r u) at l) m);
        own = λ r c p d u v l m x y z.
            e.own r c p d u v (rw (first r u) at l) m (rw (first p v) at x) y
            (rw (starts r (omega arith), starts p (omega arith), first r u, first p v) at z);
        leftmost = λ i a u x.
            let m = e.leftmost i a u x in
            let v : m.0 < n = omega (arith, m.1) in
            (m.0, m.1, rw (same i u, same m.0 v) (w.there (o i) (o m.0) (h.below i u) m.2), first (2 * i + a) (omega arith) ∙ m.3);
      }

  pub demand_carried : {o q f g s t : ℕ → ℕ} → ((i : ℕ) → i < n → q i ≡ o i) → ((r : ℕ) → r < 2 * n → g r ≡ f r) → ((r : ℕ) → r ≤ 2 * n → t r ≡ s r)
      → Demand3 n S o f s → Demand3 n T q g t
  demand_carried same first starts d = record {
    ordered = ordered_carried same d.ordered;
    enveloped = enveloped_carried same d.ordered first
        starts d.enveloped;
  }
