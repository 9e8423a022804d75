-- Demand 3 of the reversed placing, for any choice of the start.
use Prim.Native.Nat.{ℕ, suc, ◌+◌, ◌-◌, ◌≤◌, ◌<◌}
use native.Mathlib.Omega.{arith}
use mathlib.Core.Path.{◌≡◌, refl, sym, ap, ◌∙◌, subst}
use mathlib.Core.Logic.{◌⊎◌, inl, inr}
use mathlib.Core.List.{List, reverse}
use lib.ListN.{length, get_or, length-map, length-reverse}
use Rattle.law.specs.Truth.{below_or}
use Rattle.matrix_shape.specs.Rows.{at}
use Rattle.order_definition.specs.Order.{placing}
use Rattle.order_definition.proofs.At.{At, at_lt, at_of, at_get_or, at_fun, at_map, at_unmap, at_reverse}
use Rattle.order_definition.proofs.Pigeon.{Distinct, few, all}
use Rattle.order_demand3.specs.Demand.{Chain, stay, link, Chained, Fewest, Last, Ordered}
use Rattle.order_demand3.proofs.Place.{Mark, whos, Inv, Given, chain_snoc, whos_distinct, whos_below, walk}

module _ (S : ℕ → ℕ → Type 0) (n : ℕ) where
  chain_append : {a b c k m : ℕ} → Chain S a b k → Chain S b c m → Chained S a c
  chain_append {m = m} stay d = (m, d)
  chain_append (link s ch) d = let r = chain_append ch d in (suc r.0, link s r.1)

  module _ (swap : (a b : ℕ) → a < n → S a b → S b a) (reaches : (a b : ℕ) → a < n → S a b → b < n) where
    chain_back : {a b k : ℕ} → a < n → Chain S a b k → Chain S b a k
    chain_back h stay = stay
    chain_back h (link {a = a} {b = b} s ch) = chain_snoc S n (chain_back (reaches a b h s) ch) (swap a b h s)

module _ (S : ℕ → ℕ → Type 0) (n : ℕ) (start : List ℕ → ℕ) (adds : List ℕ → ℕ → List ℕ) (G : Given S n start adds)
    (g : List Mark) (v : Inv S n n g) (long : n ≤ length g) where
  distinct : Distinct (whos g)
  distinct = whos_distinct S n start adds G g v.base

  below : (i w : ℕ) → At (whos g) i w → w < n
  below = whos_below S n start adds G g v.base

  size : length g ≡ n
  size = let p = few n (whos g) distinct below in omega (arith, length-map g (λ (e : Mark). e.who))

  -- along a chain the root stays, and the depth grows by at most a link
  along : {a w k : ℕ} → Chain S a w k → (i : ℕ) (e : Mark) → At g i e → e.who ≡ a
      → (j : ℕ) × (f : Mark) × At g j f × (f.who ≡ w) × (f.root ≡ e.root) × (f.dep ≤ e.dep + k)
  along stay i e x p = (i, e, x, p, refl, omega arith)
  along (link {b = b} s ch) i e x p =
      let lt = at_lt x in
      let q = v.closed i e b (omega (arith, size)) x (subst (λ (c : ℕ). S c b) (sym p) s) in
      let r = along ch q.0 q.1 q.2 q.3 in
      (r.0, r.1, r.2, r.3, r.4 ∙ q.4, omega (arith, r.5, q.5))

  -- two marks, and the particle that a place of the order holds
  o : List ℕ
  o = reverse (whos g)

  length_o : length (reverse (whos g)) ≡ n
  length_o = length-reverse (whos g) ∙ length-map g (λ (e : Mark). e.who) ∙ size

  abbrev Seat : ℕ → Type 0
  Seat i = (j : ℕ) × (e : Mark) × (suc (i + j) ≡ n) × At g j e × (get_or o i 0 ≡ e.who)

  -- whoever stands at j in the walk stands at i in the order
  seen : (i j : ℕ) (e : Mark) → suc (i + j) ≡ n → At g j e → get_or o i 0 ≡ e.who
  unfolding o
  seen i j e h x = at_get_or 0 (at_reverse (at_map (λ (e : Mark). e.who) x) i (h ∙ sym (length-map g (λ (e : Mark). e.who) ∙ size)))

  seat : (i : ℕ) → i < n → Seat i
  seat i lt =
      let j = n - suc i in
      let c = at_of g j (omega (arith, size)) in
      let h : suc (i + j) ≡ n = omega arith in
      (j, c.0, h, c.1, seen i j c.0 h c.1)

  same : (i j : ℕ) (e f : Mark) → At g i e → At g j f → e.who ≡ f.who → e ≡ f
  same i j e f x y p = at_fun (subst (λ (k : ℕ). At g k e) (v.base.once i j e f x y p) x) y

  -- joined particles have one root
  one_root : (i j : ℕ) (e f : Mark) → At g i e → At g j f → Chained S e.who f.who → f.root ≡ e.root
  one_root i j e f x y c =
      let q = along c.1 i e x refl in
      ap (λ (m : Mark). m.root) (sym (same q.0 j q.1 f q.2 y q.3)) ∙ q.4

  -- and one root joins them
  joins : (i j : ℕ) (e f : Mark) → At g i e → At g j f → e.root ≡ f.root → Chained S e.who f.who
  joins i j e f x y p =
      let a = v.base.path i e x in
      let b = v.base.path j f y in
      let r : a.0 ≡ b.0 = at_fun a.1 (subst (λ (k : ℕ). At g k b.0) (sym p) b.1) in
      let ch : Chain S e.who b.0.who e.dep = subst (λ (m : Mark). Chain S e.who m.who e.dep) r a.4 in
      chain_append S n ch (chain_back S n G.swap G.reaches (v.base.below j f y) b.4)

  -- the fewest links to a root are the depth
  least : (i j : ℕ) (e f : Mark) → At g i e → At g j f → f.dep ≡ 0 → (k : ℕ) → Chain S e.who f.who k → e.dep ≤ k
  least i j e f x y z k ch =
      let q = along (chain_back S n G.swap G.reaches (v.base.below i e x) ch) j f y refl in
      let s : q.1 ≡ e = same q.0 i q.1 e q.2 x q.3 in
      let d : q.1.dep ≡ e.dep = ap (λ (m : Mark). m.dep) s in
      omega (arith, q.5)

  -- the last place of a stretch is its root
  rooted : (k : ℕ) (s : Seat k) → Last n S (at o) k → (s.1.root ≡ s.0) × (s.1.dep ≡ 0)
  rooted k s last =
      let p = v.base.path s.0 s.1 s.3 in
      let up = v.base.root s.0 s.1 s.3 in
      let here : s.1.root ≡ s.0 = go (below_or s.1.root s.0) in
      let is : p.0 ≡ s.1 = at_fun (subst (λ (i : ℕ). At g i p.0) here p.1) s.3 in
      (here, sym (ap (λ (m : Mark). m.dep) is) ∙ p.3)
    where
      go : (s.1.root < s.0) ⊎ (s.0 ≤ s.1.root) → s.1.root ≡ s.0
      go (inr le) = let up = v.base.root s.0 s.1 s.3 in omega arith
      go (inl lt) =
          let p = v.base.path s.0 s.1 s.3 in
          let m = n - suc s.1.root in
          let e : get_or o m 0 ≡ p.0.who = seen m s.1.root p.0 (omega (arith, s.2)) p.1 in
          absurd (last.1 m (omega (arith, s.2)) (omega (arith, s.2))
          (subst (λ (w : ℕ). Chained S w (get_or o m 0)) (sym s.4) (subst (λ (w : ℕ). Chained S s.1.who w) (sym e) (s.1.dep, p.4))))

  abbrev Stretch : ℕ → ℕ → Type 0
  Stretch i k = Chained S (get_or o i 0) (get_or o k 0)

  roots : (i k : ℕ) (s : Seat i) (t : Seat k) → Stretch i k → t.1.root ≡ s.1.root
  roots i k s t c = one_root s.0 t.0 s.1 t.1 s.3 t.3 (subst (λ (w : ℕ). Chained S s.1.who w) t.4
      (subst (λ (w : ℕ). Chained S w (get_or o k 0)) s.4 c))

  unroots : (i k : ℕ) (s : Seat i) (t : Seat k) → s.1.root ≡ t.1.root → Stretch i k
  unroots i k s t p = subst (λ (w : ℕ). Chained S w (get_or o k 0)) (sym s.4) (subst (λ (w : ℕ). Chained S s.1.who w) (sym t.4)
      (joins s.0 t.0 s.1 t.1 s.3 t.3 p))

  unbroken : (i j k : ℕ) → i ≤ j → j ≤ k → k < n → Stretch i k → Stretch i j × Stretch j k
  unbroken i j k le le' lt c =
      let s = seat i (omega arith) in
      let t = seat j (omega arith) in
      let u = seat k lt in
      let r = roots i k s u c in
      let a = (v.base.order t.0 s.0 t.1 s.1 t.3 s.3 (omega (arith, s.2, t.2))).0 in
      let b = (v.base.order u.0 t.0 u.1 t.1 u.3 t.3 (omega (arith, u.2, t.2))).0 in
      (unroots i j s t (omega arith), unroots j k t u (omega arith))

  -- the depth of a place of the stretch that ends at k is its fewest links to k
  fewest : (i k : ℕ) (s : Seat i) (t : Seat k) → Last n S (at o) k → Stretch i k → Fewest S (get_or o i 0) (get_or o k 0) s.1.dep
  fewest i k s t last c =
      let z = rooted k t last in
      let r = roots i k s t c in
      let p = v.base.path s.0 s.1 s.3 in
      let is : p.0 ≡ t.1 = at_fun (subst (λ (x : ℕ). At g x p.0) (sym r ∙ z.0) p.1) t.3 in
      let ch : Chain S s.1.who t.1.who s.1.dep = subst (λ (m : Mark). Chain S s.1.who m.who s.1.dep) is p.4 in
      subst (λ (w : ℕ). Fewest S w (get_or o k 0) s.1.dep) (sym s.4) (subst (λ (w : ℕ). Fewest S s.1.who w s.1.dep) (sym t.4)
      (ch, λ (m : ℕ) (d : Chain S s.1.who t.1.who m). least s.0 t.0 s.1 t.1 s.3 t.3 z.1 m d))

  -- the root's place ends the stretch
  stretch : (i : ℕ) → i < n → (k : ℕ) × (i ≤ k) × Last n S (at o) k × Stretch i k
  stretch i lt =
      let s = seat i lt in
      let p = v.base.path s.0 s.1 s.3 in
      let up = v.base.root s.0 s.1 s.3 in
      let k = n - suc s.1.root in
      let h : suc (k + s.1.root) ≡ n = omega (arith, s.2) in
      let t : Seat k = (s.1.root, p.0, h, p.1, seen k s.1.root p.0 h p.1) in (
        k,
        omega (arith, s.2),
        (
          omega arith,
          λ (m : ℕ) (more : k < m) (lm : m < n) (c : Chained S (get_or o k 0) (get_or o m 0)).
              let u = seat m lm in
              let r = roots k m t u c in
              let w = v.base.root u.0 u.1 u.3 in
              omega (arith, r, p.2, w, u.2),
        ),
        unroots i k s t (sym p.2),
      )

  ordered_walk : Ordered n S (at (reverse (whos g)))
  unfolding o
  ordered_walk = record {
    listed = λ p lt.
        let a = all n (whos g) distinct below (omega (arith, length-map g (λ (e : Mark). e.who))) p lt in
        let u = at_unmap (λ (e : Mark). e.who) g a.1 in
        let l = at_lt u.1 in
        let i = n - suc a.0 in
        (i, omega (arith, size), seen i a.0 u.0 (omega (arith, size)) u.1 ∙ u.2);
    below = λ i lt. let s = seat i lt in subst (λ (w : ℕ). w < n) (sym s.4) (v.base.below s.0 s.1 s.3);
    once = λ i j li lj p.
        let s = seat i li in
        let t = seat j lj in
        let q = v.base.once s.0 t.0 s.1 t.1 s.3 t.3 (sym s.4 ∙ p ∙ t.4) in
        omega (arith, s.2, t.2);
    unbroken = unbroken;
    stretch = stretch;
    measured = λ i k le last c.
        let s = seat i (omega (arith, last.0)) in
        (s.1.dep, fewest i k s (seat k last.0) last c);
    back = λ i j k le le' last c d e fd fe.
        let s = seat i (omega (arith, last.0)) in
        let t = seat j (omega (arith, last.0)) in
        let u = seat k last.0 in
        let c' = (unbroken i j k le le' last.0 c).1 in
        let a = (fewest i k s u last c).1 d fd.0 in
        let b = fe.1 t.1.dep (fewest j k t u last c').0 in
        let r = roots i k s u c in
        let r' = roots j k t u c' in
        let m = (v.base.order t.0 s.0 t.1 s.1 t.3 s.3 (omega (arith, s.2, t.2))).1 (sym r' ∙ r) in
        omega arith;
  }

module _ (S : ℕ → ℕ → Type 0) (n : ℕ) (start : List ℕ → ℕ) (adds : List ℕ → ℕ → List ℕ) (G : Given S n start adds) where
  pub ordered : Ordered n S (at (reverse (placing start adds n)))
  ordered =
      let w = walk S n start adds G n (omega arith) in
      subst (λ (l : List ℕ). Ordered n S (at (reverse l))) w.1 (ordered_walk S n start adds G w.0 w.2 w.3)

  pub ordered_long : length (reverse (placing start adds n)) ≡ n
  ordered_long =
      let w = walk S n start adds G n (omega arith) in
      subst (λ (l : List ℕ). length (reverse l) ≡ n) w.1 (length_o S n start adds G w.0 w.2 w.3)
