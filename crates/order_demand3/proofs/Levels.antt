-- Meeting one particle's neighbours: those met get the next level, a chain leads to each, and along the queue levels never fall. Assumes nothing.
use Prim.Native.Nat.{ℕ, zero, suc, ◌+◌, ◌≤◌, ◌<◌}
use native.Mathlib.Omega.{arith}
use mathlib.Core.Path.{◌≡◌, refl, sym, ap, ◌∙◌, subst}
use mathlib.Core.Logic.{◌⊎◌, inl, inr}
use mathlib.Core.Bool.{Bool, true, false, false≢true, cond, ◌&&◌}
use mathlib.Core.List.{List, [], ◌∷◌, ◌++◌}
use lib.Dec.{eqb}
use lib.ListN.{length, set, length-set}
use lib.Seq.{get_or-set_same, get_or-set_other}
use borrow.Author.Tests.{eqb-true, eqb-false}
use Rattle.law.specs.Truth.{same_or}
use Rattle.matrix_shape.specs.Rows.{at}
use Rattle.order_definition.specs.Order.{Breadth, met, meet, meet_all}
use Rattle.order_definition.proofs.At.{At, first, at_nil, at_lt, at_of, at_fun, at_left, at_cases, In, one_at}
use Rattle.order_definition.proofs.Pigeon.{in_cons, in_head, in_tail, in_right}
use Rattle.order_demand3.specs.Demand.{Chain, stay, link}
use Rattle.order_demand3.specs.Picks.{Open}

pub chain_on : {T : ℕ → ℕ → Type 0} {a b c k : ℕ} → Chain T a b k → T b c → Chain T a c (suc k)
chain_on stay t = link t stay
chain_on (link l h) t = link l (chain_on h t)

-- q has r's queue in front of its own, and the levels of those in it are as they were
pub record Grown (r q : Breadth) : Type 0 where
  pub front : (i w : ℕ) → At r.queue i w → At q.queue i w
  pub kept : (w : ℕ) → In w r.queue → at q.level w ≡ at r.level w

grown_self : (r : Breadth) → Grown r r
grown_self r = record { front = λ i w a. a; kept = λ w a. refl }

grown_on : (p q r : Breadth) → Grown p q → Grown q r → Grown p r
grown_on p q r g h = record { front = λ i w a. h.front i w (g.front i w a); kept = λ w a. h.kept w (a.0, g.front a.0 w a.1) ∙ g.kept w a }

-- what stands at one of r's places stood there before
pub grown_back : (r q : Breadth) → Grown r q → (i w : ℕ) → i < length r.queue → At q.queue i w → At r.queue i w
grown_back r q g i w lt a = let e = at_of r.queue i lt in subst (λ (x : ℕ). At r.queue i x) (at_fun (g.front i e.0 e.1) a) e.1

module _ (n : ℕ) (S : ℕ → ℕ → Type 0) (free : ℕ → Bool) (s : ℕ) where
  abbrev L : ℕ → ℕ → Type 0
  L = Open free S

  -- whoever is met has a level, at most one more than k, and a chain of one link fewer leads there; along the queue levels never fall
  pub record Climbs (k : ℕ) (r : Breadth) : Type 0 where
    pub long : length r.level ≡ n
    pub path : (w : ℕ) → In w r.queue → (j : ℕ) × (at r.level w ≡ suc j) × Chain L s w j
    pub known : (w : ℕ) → 0 < at r.level w → In w r.queue
    pub upto : (w : ℕ) → In w r.queue → at r.level w ≤ suc k
    pub rise : (i j v w : ℕ) → At r.queue i v → At r.queue j w → i ≤ j → at r.level v ≤ at r.level w

  module _ (k : ℕ) (r : Breadth) (w : ℕ) (lt : w < n) (c : Climbs k r) (new : at r.level w ≡ 0) (ch : Chain L s w k) where
    abbrev level' : List ℕ
    level' = set r.level w (suc k)

    other : (v : ℕ) → In v r.queue → at level' v ≡ at r.level v
    other v a = get_or-set_other r.level w v (suc k) 0 (λ (e : v ≡ w). let p = (c.path v a).1 in let q = ap (at r.level) e in omega arith)

    own : at level' w ≡ suc k
    own = get_or-set_same r.level w (suc k) 0 (omega (arith, c.long))

    -- a place of the longer queue is an old one or the new one
    abbrev Told : ℕ → ℕ → Type 0
    Told i v = (At r.queue i v × (at level' v ≡ at r.level v)) ⊎ ((length r.queue ≤ i) × (w ≡ v) × (at level' v ≡ suc k))

    told : (i v : ℕ) → At (r.queue ++ (w ∷ [])) i v → Told i v
    told i v a = go (at_cases r.queue a)
      where
        go : At r.queue i v ⊎ ((m : ℕ) × (i ≡ length r.queue + m) × At (w ∷ []) m v) → Told i v
        go (inl p) = inl (p, other v (i, p))
        go (inr p) = let e = (one_at p.2).1 in inr (omega (arith, p.1), e, ap (at level') (sym e) ∙ own)

    path' : (i v : ℕ) → Told i v → (j : ℕ) × (at level' v ≡ suc j) × Chain L s v j
    path' i v (inl p) = let h = c.path v (i, p.0) in (h.0, p.1 ∙ h.1, h.2)
    path' i v (inr p) = (k, p.2, subst (λ (x : ℕ). Chain L s x k) p.1 ch)

    upto' : (i v : ℕ) → Told i v → at level' v ≤ suc k
    upto' i v (inl p) = omega (arith, p.1, c.upto v (i, p.0))
    upto' i v (inr p) = omega (arith, p.2)

    known' : (v : ℕ) → 0 < at level' v → (v ≡ w) ⊎ (v ≡ w → ⊥) → In v (r.queue ++ (w ∷ []))
    known' v h (inl e) = in_right r.queue (w ∷ []) v (0, first (sym e))
    known' v h (inr ne) = let a = c.known v (omega (arith, get_or-set_other r.level w v (suc k) 0 ne)) in (a.0, at_left (w ∷ []) a.1)

    rise' : (i j v x : ℕ) → i ≤ j → Told i v → Told j x → at level' v ≤ at level' x
    rise' i j v x le (inl p) (inl q) = omega (arith, p.1, q.1, c.rise i j v x p.0 q.0 le)
    rise' i j v x le (inl p) (inr q) = omega (arith, p.1, q.2, c.upto v (i, p.0))
    rise' i j v x le (inr p) (inl q) = let m = at_lt q.0 in absurd (omega (arith, p.0))
    rise' i j v x le (inr p) (inr q) = omega (arith, p.2, q.2)

    pub met_climbs : Climbs k (met r w (suc k))
    met_climbs = record {
      long = length-set r.level w (suc k) ∙ c.long;
      path = λ v a. path' a.0 v (told a.0 v a.1);
      known = λ v h. known' v h (same_or v w);
      upto = λ v a. upto' a.0 v (told a.0 v a.1);
      rise = λ i j v x a b le. rise' i j v x le (told i v a) (told j x b);
    }

    met_grown : Grown r (met r w (suc k))
    met_grown = record { front = λ i v a. at_left (w ∷ []) a; kept = other }

  -- r has come to q
  abbrev Next : ℕ → Breadth → Breadth → Type 0
  Next k r q = Climbs k q × Grown r q

  meet_next : (k : ℕ) (r : Breadth) (w : ℕ) → w < n → (free w ≡ true → Chain L s w k) → Climbs k r → Next k r (meet free (suc k) r w)
      × (free w ≡ true → In w (meet free (suc k) r w).queue)
  meet_next k r w lt ch c = go (free w) refl (eqb (at r.level w) 0) refl
    where
      go : (a : Bool) → free w ≡ a → (b : Bool) → eqb (at r.level w) 0 ≡ b → Next k r (cond (a && b) (met r w (suc k)) r)
          × (a ≡ true → In w (cond (a && b) (met r w (suc k)) r).queue)
      go true f true p =
          let e = eqb-true (at r.level w) 0 p in
          ((met_climbs k r w lt c e (ch f), met_grown k r w lt c e (ch f)), λ t. in_right r.queue (w ∷ []) w (0, first refl))
      go true f false p = let ne = eqb-false (at r.level w) 0 p in ((c, grown_self r), λ t. c.known w (positive (at r.level w) ne))
        where
          positive : (x : ℕ) → (x ≡ 0 → ⊥) → 0 < x
          positive zero f = absurd (f refl)
          positive (suc x) f = omega arith
      go false f b p = ((c, grown_self r), λ t. absurd (false≢true t))

  pub meet_all_next : (k : ℕ) (r : Breadth) (ws : List ℕ) → ((w : ℕ) → In w ws → (w < n) × (free w ≡ true → Chain L s w k)) → Climbs k r
      → Next k r (meet_all free (suc k) r ws) × ((w : ℕ) → In w ws → free w ≡ true → In w (meet_all free (suc k) r ws).queue)
  meet_all_next k r [] near c = ((c, grown_self r), λ w a f. absurd (at_nil a.1))
  meet_all_next k r (w ∷ ws) near c =
      let one = near w (in_head w ws w refl) in
      let m = meet_next k r w one.0 one.1 c in
      let q = meet free (suc k) r w in
      let h = meet_all_next k q ws (λ x a. near x (in_tail w ws x a)) m.0.0 in
      ((h.0.0, grown_on r q (meet_all free (suc k) q ws) m.0.1 h.0.1), λ x a f. all x f m.1 h.0.1 h.1 (in_cons w ws x a))
    where
      all : (x : ℕ) → free x ≡ true → (free w ≡ true → In w (meet free (suc k) r w).queue) → Grown (meet free (suc k) r w)
          (meet_all free (suc k) (meet free (suc k) r w) ws)
          → ((y : ℕ) → In y ws → free y ≡ true → In y (meet_all free (suc k) (meet free (suc k) r w) ws).queue) → (w ≡ x) ⊎ In x ws
          → In x (meet_all free (suc k) (meet free (suc k) r w) ws).queue
      all x f here g rest (inl e) = let a = here (ap free e ∙ f)
          in (a.0, subst (λ (y : ℕ). At (meet_all free (suc k) (meet free (suc k) r w) ws).queue a.0 y) e (g.front a.0 w a.1))
      all x f here g rest (inr a) = rest x a f
