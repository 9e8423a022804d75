-- The placing is a breadth-first walk: its invariant, for any choice of the start and any order of what a particle adds.
-- Beside each placed particle stands the place of its stretch's root and its depth below it.
use Prim.Native.Nat.{ℕ, zero, suc, ◌+◌, ◌≤◌, ◌<◌}
use native.Mathlib.Omega.{arith}
use native.Mathlib.Nat.{add-zero}
use mathlib.Core.Path.{◌≡◌, refl, sym, ap, ◌∙◌, subst}
use mathlib.Core.Logic.{◌⊎◌, inl, inr}
use mathlib.Core.Bool.{Bool, true, false}
use mathlib.Core.List.{List, [], ◌∷◌, ◌++◌, map}
use lib.ListN.{length, get_or, length-append, length-map}
use lib.Dec.{ltb}
use borrow.Author.Tests.{ltb-true, ltb-false}
use Rattle.law.specs.Truth.{below_or}
use Rattle.order_definition.specs.Order.{placing, filled, visited}
use Rattle.order_definition.proofs.Pigeon.{Distinct, distinct_one}
use Rattle.order_definition.proofs.At.{At, first, at_nil, at_lt, at_of, at_get_or, at_fun, at_left, at_right, at_cases, In, at_map, at_unmap, one_at}
use Rattle.order_demand3.specs.Demand.{Chain, stay, link}

pub record Mark : Type 0 where
  pub who : ℕ
  pub root : ℕ
  pub dep : ℕ

abbrev pub mark : ℕ → ℕ → ℕ → Mark
mark r d w = record { who = w; root = r; dep = d }

abbrev pub whos : List Mark → List ℕ
whos g = map (λ (e : Mark). e.who) g

map_append : {A B : Type 0} (f : A → B) (l m : List A) → map f (l ++ m) ≡ map f l ++ map f m
map_append f [] m = refl
map_append {A} {B} f (x ∷ l) m = ap {B = List B} (λ r. f x ∷ r) (map_append f l m)

whos_mark : (r d : ℕ) (l : List ℕ) → whos (map (mark r d) l) ≡ l
whos_mark r d [] = refl
whos_mark r d (x ∷ l) = ap {B = List ℕ} (λ t. x ∷ t) (whos_mark r d l)

module _ (S : ℕ → ℕ → Type 0) (n : ℕ) where
  pub chain_snoc : {a b c k : ℕ} → Chain S a b k → S b c → Chain S a c (suc k)
  chain_snoc stay s = link s stay
  chain_snoc (link t ch) s = link t (chain_snoc ch s)

  -- the labels are those of a walk
  pub record Base (g : List Mark) : Type 0 where
    pub below : (i : ℕ) (e : Mark) → At g i e → e.who < n
    pub once : (i j : ℕ) (e f : Mark) → At g i e → At g j f → e.who ≡ f.who → i ≡ j
    pub root : (i : ℕ) (e : Mark) → At g i e → e.root ≤ i
    pub path : (i : ℕ) (e : Mark) → At g i e → (r : Mark) × At g e.root r × (r.root ≡ e.root) × (r.dep ≡ 0) × Chain S e.who r.who e.dep
    pub order : (i j : ℕ) (e f : Mark) → At g i e → At g j f → i ≤ j → (e.root ≤ f.root) × (e.root ≡ f.root → e.dep ≤ f.dep)

  -- and its first h places are done with
  pub record Inv (h : ℕ) (g : List Mark) : Type 0 where
    pub base : Base g
    pub wait : (j : ℕ) (e f : Mark) → At g h e → At g j f → h ≤ j → (f.root ≡ e.root) × (f.dep ≤ suc e.dep)
    pub closed : (i : ℕ) (e : Mark) (w : ℕ) → i < h → At g i e → S e.who w
        → (j : ℕ) × (f : Mark) × At g j f × (f.who ≡ w) × (f.root ≡ e.root) × (f.dep ≤ suc e.dep)

  -- new particles l, all with the root ρ and the depth δ, after g
  module _ (g : List Mark) (b : Base g) (ρ δ : ℕ) (l : List ℕ)
      (l-distinct : Distinct l)
      (l-new : (i j : ℕ) (e : Mark) → At g i e → At l j e.who → ⊥)
      (l-below : (j w : ℕ) → At l j w → w < n)
      (l-root : ρ ≤ length g)
      (l-path : (j w : ℕ) → At l j w → (r : Mark) × At (g ++ map (mark ρ δ) l) ρ r × (r.root ≡ ρ) × (r.dep ≡ 0) × Chain S w r.who δ)
      (l-order : (i : ℕ) (e : Mark) → At g i e → (e.root ≤ ρ) × (e.root ≡ ρ → e.dep ≤ δ)) where
    g' : List Mark
    g' = g ++ map (mark ρ δ) l

    -- where a mark of the new list stands
    Cases : ℕ → Mark → Type 0
    Cases i e = At g i e ⊎ ((j w : ℕ) × (i ≡ length g + j) × At l j w × (mark ρ δ w ≡ e))

    cases : (i : ℕ) (e : Mark) → At g' i e → Cases i e
    unfolding g' Cases
    cases i e a = go (at_cases g a)
      where
        go : At g i e ⊎ ((j : ℕ) × (i ≡ length g + j) × At (map (mark ρ δ) l) j e) → Cases i e
        go (inl x) = inl x
        go (inr x) = let y = at_unmap (mark ρ δ) l x.2 in inr (x.0, y.0, x.1, y.1, y.2)

    below' : (i : ℕ) (e : Mark) → Cases i e → e.who < n
    unfolding Cases
    below' i e (inl a) = b.below i e a
    below' i e (inr x) = subst (λ (m : Mark). m.who < n) x.4 (l-below x.0 x.1 x.3)

    once' : (i j : ℕ) (e f : Mark) → Cases i e → Cases j f → e.who ≡ f.who → i ≡ j
    unfolding Cases
    once' i j e f (inl x) (inl y) p = b.once i j e f x y p
    once' i j e f (inl x) (inr y) p = absurd (l-new i y.0 e x (subst (λ (w : ℕ). At l y.0 w) (ap (λ (m : Mark). m.who) y.4 ∙ sym p) y.3))
    once' i j e f (inr x) (inl y) p = absurd (l-new j x.0 f y (subst (λ (w : ℕ). At l x.0 w) (ap (λ (m : Mark). m.who) x.4 ∙ p) x.3))
    once' i j e f (inr x) (inr y) p =
        let q : x.0 ≡ y.0 = l-distinct x.0 y.0 x.1 x.3 (subst (λ (w : ℕ). At l y.0 w) (ap (λ (m : Mark). m.who) y.4 ∙ sym p
        ∙ sym (ap (λ (m : Mark). m.who) x.4)) y.3) in
        omega (arith, x.2, y.2)

    root' : (i : ℕ) (e : Mark) → Cases i e → e.root ≤ i
    unfolding Cases
    root' i e (inl a) = b.root i e a
    root' i e (inr x) = let q : ρ ≡ e.root = ap (λ (m : Mark). m.root) x.4 in omega (arith, x.2)

    path' : (i : ℕ) (e : Mark) → Cases i e → (r : Mark) × At g' e.root r × (r.root ≡ e.root) × (r.dep ≡ 0) × Chain S e.who r.who e.dep
    unfolding Cases g'
    path' i e (inl a) = let p = b.path i e a in (p.0, at_left _ p.1, p.2, p.3, p.4)
    path' i e (inr x) = subst (λ (m : Mark). (r : Mark) × At g' m.root r × (r.root ≡ m.root) × (r.dep ≡ 0) × Chain S m.who r.who m.dep)
        x.4 (l-path x.0 x.1 x.3)

    order' : (i j : ℕ) (e f : Mark) → Cases i e → Cases j f → i ≤ j → (e.root ≤ f.root) × (e.root ≡ f.root → e.dep ≤ f.dep)
    unfolding Cases
    order' i j e f (inl x) (inl y) h = b.order i j e f x y h
    order' i j e f (inl x) (inr y) h = subst (λ (m : Mark). (e.root ≤ m.root) × (e.root ≡ m.root → e.dep ≤ m.dep)) y.4 (l-order i e x)
    order' i j e f (inr x) (inl y) h = let q = at_lt y in absurd (omega (arith, x.2))
    order' i j e f (inr x) (inr y) h =
        let p : ρ ≡ e.root = ap (λ (m : Mark). m.root) x.4 in
        let q : ρ ≡ f.root = ap (λ (m : Mark). m.root) y.4 in
        let r : δ ≡ e.dep = ap (λ (m : Mark). m.dep) x.4 in
        let s : δ ≡ f.dep = ap (λ (m : Mark). m.dep) y.4 in
        (omega arith, λ (z : e.root ≡ f.root). omega arith)

    extended : Base (g ++ map (mark ρ δ) l)
    unfolding g'
    extended = record {
      below = λ i e a. below' i e (cases i e a);
      once = λ i j e f x y p. once' i j e f (cases i e x) (cases j f y) p;
      root = λ i e a. root' i e (cases i e a);
      path = λ i e a. path' i e (cases i e a);
      order = λ i j e f x y h. order' i j e f (cases i e x) (cases j f y) h;
    }

-- what the placing is handed: a symmetric relation below n, a start that is free, and the new ones that a particle adds
pub record Given (S : ℕ → ℕ → Type 0) (n : ℕ) (start : List ℕ → ℕ) (adds : List ℕ → ℕ → List ℕ) : Type 0 where
  pub swap : (a b : ℕ) → a < n → S a b → S b a
  pub reaches : (a b : ℕ) → a < n → S a b → b < n
  pub free : (o : List ℕ) → Distinct o → ((i w : ℕ) → At o i w → w < n) → length o < n → (start o < n) × (In (start o) o → ⊥)
  pub adds_stored : (o : List ℕ) (v i w : ℕ) → v < n → At (adds o v) i w → S v w
  pub adds_new : (o : List ℕ) (v i j w : ℕ) → At (adds o v) i w → At o j w → ⊥
  pub adds_once : (o : List ℕ) (v : ℕ) → v < n → Distinct (adds o v)
  pub adds_all : (o : List ℕ) (v w : ℕ) → v < n → S v w → (v ≡ w) ⊎ In w o ⊎ In w (adds o v)

module _ (S : ℕ → ℕ → Type 0) (n : ℕ) (start : List ℕ → ℕ) (adds : List ℕ → ℕ → List ℕ) (G : Given S n start adds) where
  -- the particles of a walk are distinct and below n
  pub whos_distinct : (g : List Mark) → Base S n g → Distinct (whos g)
  whos_distinct g b i j w x y =
      let p = at_unmap (λ (e : Mark). e.who) g x in
      let q = at_unmap (λ (e : Mark). e.who) g y in
      b.once i j p.0 q.0 p.1 q.1 (p.2 ∙ sym q.2)

  pub whos_below : (g : List Mark) → Base S n g → (i w : ℕ) → At (whos g) i w → w < n
  whos_below g b i w x = let p = at_unmap (λ (e : Mark). e.who) g x in subst (λ (k : ℕ). k < n) p.2 (b.below i p.0 p.1)

  filled_true : (o : List ℕ) (h : ℕ) → ltb h (length o) ≡ true → filled start adds o h ≡ o
  filled_true o h e = rw (e, filled)

  filled_false : (o : List ℕ) (h : ℕ) → ltb h (length o) ≡ false → filled start adds o h ≡ o ++ (start o ∷ [])
  filled_false o h e = rw (e, filled)

  -- a new root
  module _ (h : ℕ) (g : List Mark) (lt : h < n) (full : length g ≡ h) (v : Inv S n h g) where
    abbrev pub s : ℕ
    s = start (whos g)

    s_free : (s < n) × (In s (whos g) → ⊥)
    s_free = G.free (whos g) (whos_distinct g v.base) (whos_below g v.base)
        (subst (λ (k : ℕ). k < n) (sym (length-map g (λ (e : Mark). e.who) ∙ full)) lt)

    top : At (g ++ (mark h 0 s ∷ [])) h (mark h 0 s)
    top = subst (λ (k : ℕ). At (g ++ (mark h 0 s ∷ [])) k (mark h 0 s)) (add-zero (length g) ∙ full) (at_right g (first refl))

    rooted : Base S n (g ++ (mark h 0 s ∷ []))
    rooted = extended S n g v.base h 0 (s ∷ [])
        (distinct_one s)
        (λ i j e x y. s_free.1 (i, subst (λ (k : ℕ). At (whos g) i k) (sym (one_at y).1) (at_map (λ (e : Mark). e.who) x)))
        (λ j w x. subst (λ (k : ℕ). k < n) (one_at x).1 s_free.0)
        (omega arith)
        (λ j w x. (mark h 0 s, top, refl, refl, subst (λ (k : ℕ). Chain S k s 0) (one_at x).1 stay))
        (λ i e x. let p = v.base.root i e x in let q = at_lt x in (omega arith, λ (z : e.root ≡ h). absurd (omega arith)))

    -- a place of the longer list that is at h or above is the new one
    at_top : (j : ℕ) (f : Mark) → At (g ++ (mark h 0 s ∷ [])) j f → h ≤ j → mark h 0 s ≡ f
    at_top j f a le = go (at_cases g a)
      where
        go : At g j f ⊎ ((k : ℕ) × (j ≡ length g + k) × At (mark h 0 s ∷ []) k f) → mark h 0 s ≡ f
        go (inl x) = let q = at_lt x in absurd (omega arith)
        go (inr x) = (one_at x.2).1

    -- and one below h is an old one
    at_old : (j : ℕ) (f : Mark) → At (g ++ (mark h 0 s ∷ [])) j f → j < h → At g j f
    at_old j f a lt = go (at_cases g a)
      where
        go : At g j f ⊎ ((k : ℕ) × (j ≡ length g + k) × At (mark h 0 s ∷ []) k f) → At g j f
        go (inl x) = x
        go (inr x) = absurd (omega (arith, x.1))

    new_root : Inv S n h (g ++ (mark h 0 s ∷ []))
    new_root = record {
      base = rooted;
      wait = λ j e f x y le.
          let p : mark h 0 s ≡ e = at_top h e x (omega arith) in
          let q : mark h 0 s ≡ f = at_top j f y le in
          let d : 0 ≡ f.dep = ap (λ (m : Mark). m.dep) q in
          (sym (ap (λ (m : Mark). m.root) q) ∙ ap (λ (m : Mark). m.root) p, omega arith);
      closed = λ i e w lt x t.
          let c = v.closed i e w lt (at_old i e x lt) t in
          (c.0, c.1, at_left _ c.2, c.3, c.4, c.5);
    }

  -- the particle at h adds its own
  module _ (h : ℕ) (g : List Mark) (v : Inv S n h g) (c : Mark) (at-h : At g h c) where
    abbrev pub new : List ℕ
    new = adds (whos g) c.who

    abbrev news : List Mark
    news = map (mark c.root (suc c.dep)) new

    c_below : c.who < n
    c_below = v.base.below h c at-h

    before_it : (i : ℕ) (e : Mark) → At g i e → (e.root ≤ c.root) × (e.root ≡ c.root → e.dep ≤ suc c.dep)
    before_it i e x = go (below_or h i)
      where
        go : (h < i) ⊎ (i ≤ h) → (e.root ≤ c.root) × (e.root ≡ c.root → e.dep ≤ suc c.dep)
        go (inr le) = let p = v.base.order i h e c x at-h le in (p.0, λ (z : e.root ≡ c.root). let q = p.1 z in omega arith)
        go (inl lt) = let p = v.wait i c e at-h x (omega arith) in (omega (arith, p.0), λ (z : e.root ≡ c.root). p.1)

    grown : Base S n (g ++ news)
    grown = extended S n g v.base c.root (suc c.dep) new
        (G.adds_once (whos g) c.who c_below)
        (λ i j e x y. G.adds_new (whos g) c.who j i e.who y (at_map (λ (e : Mark). e.who) x))
        (λ j w x. G.reaches c.who w c_below (G.adds_stored (whos g) c.who j w c_below x))
        (let p = v.base.root h c at-h in let q = at_lt at-h in omega arith)
        (λ j w x.
        let p = v.base.path h c at-h in
        (p.0, at_left _ p.1, p.2, p.3, link (G.swap c.who w c_below (G.adds_stored (whos g) c.who j w c_below x)) p.4))
        before_it

    -- from h on the roots are the same, and the depths one of two
    late : (j : ℕ) (f : Mark) → At (g ++ news) j f → h ≤ j → (f.root ≡ c.root) × (c.dep ≤ f.dep) × (f.dep ≤ suc c.dep)
    late j f a le = go (at_cases g a)
      where
        go : At g j f ⊎ ((k : ℕ) × (j ≡ length g + k) × At (map (mark c.root (suc c.dep)) new) k f) → (f.root ≡ c.root) × (c.dep ≤ f.dep)
            × (f.dep ≤ suc c.dep)
        go (inl x) =
            let p = v.wait j c f at-h x le in
            let q = (v.base.order h j c f at-h x le).1 (sym p.0) in
            (p.0, q, p.1)
        go (inr x) =
            let y = at_unmap (mark c.root (suc c.dep)) new x.2 in
            let p : suc c.dep ≡ f.dep = ap (λ (m : Mark). m.dep) y.2 in
            (sym (ap (λ (m : Mark). m.root) y.2), omega arith, omega arith)

    Near : Mark → ℕ → Type 0
    Near e w = (j : ℕ) × (f : Mark) × At (g ++ news) j f × (f.who ≡ w) × (f.root ≡ e.root) × (f.dep ≤ suc e.dep)

    -- w is placed already
    known : (w j : ℕ) (f : Mark) → S c.who w → At g j f → f.who ≡ w → Near c w
    unfolding Near
    known w j f t x p = go (below_or j h)
      where
        go : (j < h) ⊎ (h ≤ j) → Near c w
        go (inr le) = let q = v.wait j c f at-h x le in (j, f, at_left _ x, p, q.0, q.1)
        go (inl lt) =
            let back : S f.who c.who = subst (λ (k : ℕ). S k c.who) (sym p) (G.swap c.who w c_below t) in
            let q = v.closed j f c.who lt x back in
            let same : q.0 ≡ h = v.base.once q.0 h q.1 c q.2 at-h q.3 in
            let is : q.1 ≡ c = at_fun (subst (λ (k : ℕ). At g k q.1) same q.2) at-h in
            let r : f.root ≡ c.root = sym q.4 ∙ ap (λ (m : Mark). m.root) is in
            let d : f.dep ≤ c.dep = (v.base.order j h f c x at-h (omega arith)).1 r in
            (j, f, at_left _ x, p, r, omega arith)

    reached : (w : ℕ) → S c.who w → (c.who ≡ w) ⊎ In w (whos g) ⊎ In w new → Near c w
    unfolding Near
    reached w t (inl p) = (h, c, at_left _ at-h, p, refl, omega arith)
    reached w t (inr (inl x)) = let y = at_unmap (λ (e : Mark). e.who) g x.1 in known w x.0 y.0 t y.1 y.2
    reached w t (inr (inr x)) = (
      length g + x.0,
      mark c.root (suc c.dep) w,
      at_right g (at_map (mark c.root (suc c.dep)) x.1),
      refl,
      refl,
      omega arith,
    )

    closed' : (i : ℕ) (e : Mark) (w : ℕ) → i < suc h → At (g ++ news) i e → S e.who w → Near e w
    unfolding Near
    closed' i e w lt a t = go (at_cases g a)
      where
        here : At g i e → (i < h) ⊎ (h ≤ i) → Near e w
        here x (inr le) =
            let same : i ≡ h = omega arith in
            let is : c ≡ e = at_fun at-h (subst (λ (k : ℕ). At g k e) same x) in
            subst (λ (m : Mark). S m.who w → Near m w) is (λ (u : S c.who w). reached w u (G.adds_all (whos g) c.who w c_below u)) t
        here x (inl lt') = let q = v.closed i e w lt' x t in (q.0, q.1, at_left _ q.2, q.3, q.4, q.5)

        go : At g i e ⊎ ((k : ℕ) × (i ≡ length g + k) × At news k e) → Near e w
        go (inl x) = here x (below_or i h)
        go (inr x) = let q = at_lt at-h in absurd (omega (arith, x.1))

    grown_inv : Inv S n (suc h) (g ++ news)
    unfolding Near
    grown_inv = record {
      base = grown;
      wait = λ j e f x y le.
          let p = late (suc h) e x (omega arith) in
          let q = late j f y (omega arith) in
          (q.0 ∙ sym p.0, omega arith);
      closed = closed';
    }

  -- ---- the walk, place by place

  Walk : ℕ → List ℕ → Type 0
  Walk h o = (g : List Mark) × (whos g ≡ o) × Inv S n h g × (h ≤ length g)

  fill : (h : ℕ) (g : List Mark) → h < n → Inv S n h g → h ≤ length g → (g₁ : List Mark) × (whos g₁ ≡ filled start adds (whos g) h) × Inv S n h g₁
      × (h < length g₁)
  fill h g lt v le = go (ltb h (length (whos g))) refl
    where
      size : length (whos g) ≡ length g
      size = length-map g (λ (e : Mark). e.who)

      go : (b : Bool) → ltb h (length (whos g)) ≡ b → (g₁ : List Mark) × (whos g₁ ≡ filled start adds (whos g) h) × Inv S n h g₁ × (h < length g₁)
      go true p = let q = ltb-true h (length (whos g)) p in (g, sym (filled_true (whos g) h p), v, omega (arith, size))
      go false p =
          let q = ltb-false h (length (whos g)) p in
          let full : length g ≡ h = omega (arith, size) in (
            g ++ (mark h 0 (start (whos g)) ∷ []),
            map_append (λ (e : Mark). e.who) g (mark h 0 (start (whos g)) ∷ []) ∙ sym (filled_false (whos g) h p),
            new_root h g lt full v,
            omega (arith, length-append g (mark h 0 (start (whos g)) ∷ [])),
          )

  step : (h : ℕ) (o : List ℕ) → h < n → Walk h o → Walk (suc h) (visited start adds (filled start adds o h) h)
  unfolding Walk
  step h o lt w =
      let f = fill h w.0 lt w.2 w.3 in
      let g = f.0 in
      let c = at_of g h f.3 in
      let here : get_or (whos g) h 0 ≡ c.0.who = at_get_or 0 (at_map (λ (e : Mark). e.who) c.1) in
      let l = adds (whos g) c.0.who in
      let m = map (mark c.0.root (suc c.0.dep)) l in
      let same : whos g ≡ filled start adds o h = f.1 ∙ ap (λ (t : List ℕ). filled start adds t h) w.1 in (
        g ++ m,
        map_append (λ (e : Mark). e.who) g m
            ∙ ap {B = List ℕ} (λ t. whos g ++ t) (whos_mark c.0.root (suc c.0.dep) l)
            ∙ ap {B = List ℕ} (λ x. whos g ++ adds (whos g) x) (sym here)
            ∙ ap (λ (t : List ℕ). visited start adds t h) same,
        grown_inv h g f.2 c.0 c.1,
        omega (arith, length-append g m, f.3),
      )

  pub walk : (h : ℕ) → h ≤ n → (g : List Mark) × (whos g ≡ placing start adds h) × Inv S n h g × (h ≤ length g)
  unfolding placing Walk
  walk zero le = (
    [],
    refl,
    record {
      base = record {
        below = λ i e a. absurd (at_nil a);
        once = λ i j e f a b p. absurd (at_nil a);
        root = λ i e a. absurd (at_nil a);
        path = λ i e a. absurd (at_nil a);
        order = λ i j e f a b h. absurd (at_nil a);
      };
      wait = λ j e f a b h. absurd (at_nil a);
      closed = λ i e w lt a s. absurd (at_nil a);
    },
    omega arith,
  )
  walk (suc h) le = step h (placing start adds h) le (walk h (omega arith))
