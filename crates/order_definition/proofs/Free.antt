-- The start of a stretch is an unplaced particle below n. And a search's queue: free particles below n, none twice.
use Prim.Native.Nat.{ℕ, zero, suc, ◌-◌, ◌≤◌, ◌<◌}
use native.Mathlib.Omega.{arith}
use mathlib.Core.Path.{◌≡◌, refl, sym, ap, ◌∙◌, subst}
use mathlib.Core.Logic.{◌⊎◌, inl, inr}
use mathlib.Core.Bool.{Bool, true, false, not, ◌&&◌, cond}
use mathlib.Core.List.{List, [], ◌∷◌, ◌++◌}
use lib.ListN.{length, get_or, set, replicate, length-append, length-set, length-replicate}
use lib.Seq.{get_or-set_same, get_or-set_other}
use lib.Dec.{ltb, leb, eqb}
use borrow.Author.Tests.{eqb-true, eq-eqb, ltb-true, not-true}
use Rattle.order_definition.specs.Order.{among, passing, degree, numbers, least, Breadth, met, meet, meet_all, spread, reach, depth, far_of}
use Rattle.order_definition.specs.Order.{settle, choose_start, start_after}
use Rattle.order_definition.proofs.At.{first, at_nil, get_d_at, In, one_at}
use Rattle.order_definition.proofs.Pigeon.{Distinct, distinct_one, distinct_append, in_head, in_tail, in_append, among_true, among_false}
use Rattle.order_definition.proofs.Pigeon.{pigeon, few, in_numbers, numbers_below, numbers_distinct, length_numbers}
use Rattle.order_definition.proofs.Lists.{passing_in, in_passing, least_in}

in_snoc : (l : List ℕ) (x w : ℕ) → In w (l ++ (x ∷ [])) → In w l ⊎ (x ≡ w)
in_snoc l x w a = go (in_append l (x ∷ []) w a)
  where
    go : In w l ⊎ In w (x ∷ []) → In w l ⊎ (x ≡ w)
    go (inl p) = inl p
    go (inr p) = inr (one_at p.1).1

module _ (nb : ℕ → List ℕ) (n : ℕ) (free : ℕ → Bool) where
  -- what a search holds: free particles below n, none twice, and who has a level is in the queue
  pub record Sound (r : Breadth) : Type 0 where
    pub some : 0 < length r.queue
    pub below : (w : ℕ) → In w r.queue → w < n
    pub is_free : (w : ℕ) → In w r.queue → free w ≡ true
    pub once : Distinct r.queue
    pub long : length r.level ≡ n
    pub seen : (w : ℕ) → In w r.queue → 0 < get_or r.level w 0

  -- so a queue is never longer than n, and one that is to grow is shorter
  pub short : (r : Breadth) → Sound r → length r.queue ≤ n
  short r h = few n r.queue h.once (λ i w a. h.below w (i, a))

  module _ (near : (v w : ℕ) → v < n → In w (nb v) → w < n) where
    -- w is met
    met_sound : (r : Breadth) (w l : ℕ) → 0 < l → w < n → free w ≡ true → get_or r.level w 0 ≡ 0 → Sound r → Sound (met r w l)
    met_sound r w l pos lt fr un h = record {
      some = omega (arith, length-append r.queue (w ∷ []));
      below = λ x a. go₁ x (in_snoc r.queue w x a);
      is_free = λ x a. go₂ x (in_snoc r.queue w x a);
      once = distinct_append r.queue (w ∷ []) h.once (distinct_one w)
          (λ x a b. let p = h.seen x a in let e = ap (λ (k : ℕ). get_or r.level k 0) (one_at b.1).1 in omega arith);
      long = length-set r.level w l ∙ h.long;
      seen = λ x a. go₃ x (in_snoc r.queue w x a);
    }
      where
        go₁ : (x : ℕ) → In x r.queue ⊎ (w ≡ x) → x < n
        go₁ x (inl a) = h.below x a
        go₁ x (inr p) = omega arith

        go₂ : (x : ℕ) → In x r.queue ⊎ (w ≡ x) → free x ≡ true
        go₂ x (inl a) = h.is_free x a
        go₂ x (inr p) = ap free (sym p) ∙ fr

        same : 0 < get_or (set r.level w l) w 0
        same = subst (λ (k : ℕ). 0 < k) (sym (get_or-set_same r.level w l 0 (omega (arith, h.long)))) pos

        go₃ : (x : ℕ) → In x r.queue ⊎ (w ≡ x) → 0 < get_or (set r.level w l) x 0
        go₃ x (inl a) = subst (λ (k : ℕ). 0 < k)
            (sym (get_or-set_other r.level w x l 0 (λ (p : x ≡ w). let q = h.seen x a in let e : get_or r.level x 0 ≡ get_or r.level w 0 = ap
            (λ (k : ℕ). get_or r.level k 0) p in omega arith))) (h.seen x a)
        go₃ x (inr p) = subst (λ (k : ℕ). 0 < get_or (set r.level w l) k 0) p same

    meet_sound : (l : ℕ) (r : Breadth) (w : ℕ) → 0 < l → w < n → Sound r → Sound (meet free l r w)
    meet_sound l r w pos lt h = go (free w) refl (eqb (get_or r.level w 0) 0) refl
      where
        go : (b : Bool) → free w ≡ b → (c : Bool) → eqb (get_or r.level w 0) 0 ≡ c → Sound (cond (b && c) (met r w l) r)
        go true p true q = met_sound r w l pos lt p (eqb-true (get_or r.level w 0) 0 q) h
        go true p false q = h
        go false p c q = h

    meet_all_sound : (l : ℕ) (r : Breadth) (ws : List ℕ) → 0 < l → ((w : ℕ) → In w ws → w < n) → Sound r → Sound (meet_all free l r ws)
    meet_all_sound l r [] pos lt h = h
    meet_all_sound l r (w ∷ ws) pos lt h =
        meet_all_sound l (meet free l r w) ws pos (λ x a. lt x (in_tail w ws x a)) (meet_sound l r w pos (lt w (in_head w ws w refl)) h)

    spread_sound : (r : Breadth) (h : ℕ) → Sound r → Sound (spread nb free r h)
    spread_sound r h f = go (ltb h (length r.queue)) refl
      where
        go : (b : Bool) → ltb h (length r.queue) ≡ b
            → Sound (elim b [ true ↦ let v = get_or r.queue h 0 in meet_all free (suc (get_or r.level v 0)) r (nb v) | false ↦ r ])
        go true p =
            let v = get_or r.queue h 0 in
            let a : In v r.queue = (h, get_d_at r.queue h 0 (ltb-true h (length r.queue) p)) in
            meet_all_sound (suc (get_or r.level v 0)) r (nb v) (omega arith) (λ w b. near v w (f.below v a) b) f
        go false p = f

    pub reach_sound : (s : ℕ) → s < n → free s ≡ true → (h : ℕ) → Sound (reach nb n free s h)
    unfolding reach
    reach_sound s lt fr zero = record {
      some = omega arith;
      below = λ x a. subst (λ (k : ℕ). k < n) (one_at a.1).1 lt;
      is_free = λ x a. ap free (sym (one_at a.1).1) ∙ fr;
      once = distinct_one s;
      long = length-set (replicate n 0) s 1 ∙ length-replicate n 0;
      seen = λ x a. subst (λ (k : ℕ). 0 < get_or (set (replicate n 0) s 1) k 0) (one_at a.1).1
          (subst (λ (k : ℕ). 0 < k) (sym (get_or-set_same (replicate n 0) s 1 0 (omega (arith, length-replicate n (lit0))))) (omega arith));
    }
      where
        lit0 : ℕ
        lit0 = 0
    reach_sound s lt fr (suc h) = spread_sound (reach nb n free s h) h (reach_sound s lt fr h)

    far_in : (r : Breadth) → Sound r → In (far_of nb n r) r.queue
    far_in r h =
        let x = get_or r.queue (length r.queue - 1) 0 in
        let a : In x r.queue = (length r.queue - 1, get_d_at r.queue (length r.queue - 1) 0 (omega (arith, h.some))) in
        let t : ℕ → Bool = λ w. eqb (get_or r.level w 0) (depth nb n r) in
        let k = in_passing t r.queue x a (eq-eqb (get_or r.level x 0) (depth nb n r) refl) in
        (passing_in t r.queue (far_of nb n r) (least_in n (degree nb) (passing t r.queue) x k)).0

    abbrev pub Free : ℕ → Type 0
    Free w = (w < n) × (free w ≡ true)

    pub far_free : (r : Breadth) → Sound r → Free (far_of nb n r)
    far_free r h = (h.below _ (far_in r h), h.is_free _ (far_in r h))

    settle_free : (k start far deep : ℕ) → Free start → Free far → Free (settle nb n free k start far deep)
    unfolding settle
    settle_free zero start far deep f g = f
    settle_free (suc k) start far deep f g =
        let r = reach nb n free far n in
        let h : Sound r = reach_sound far g.0 g.1 n in
        go (leb (depth nb n r) deep) f (settle_free k far (far_of nb n r) (depth nb n r) g (far_free r h))
      where
        go : (b : Bool) → Free start → Free (settle nb n free k far (far_of nb n (reach nb n free far n)) (depth nb n (reach nb n free far n)))
            → Free (elim b [ true ↦ start | false ↦ settle nb n free k far (far_of nb n (reach nb n free far n)) (depth nb n (reach nb n free far n)) ])
        go true x y = x
        go false x y = y

    pub least_free : (d : ℕ → ℕ) (w : ℕ) → w < n → free w ≡ true → Free (least n d (passing free (numbers n)))
    least_free d w lt fr =
        let m = passing_in free (numbers n) _ (least_in n d (passing free (numbers n)) w (in_passing free (numbers n) w (in_numbers n w lt) fr)) in
        (numbers_below n _ m.0, m.1)

    settled_free : (k s : ℕ) → Free s → Free (settle nb n free k s (far_of nb n (reach nb n free s n)) (depth nb n (reach nb n free s n)))
    settled_free k s f = settle_free k s _ _ f (far_free _ (reach_sound s f.0 f.1 n))

    choose_free : (w : ℕ) → w < n → free w ≡ true → Free (choose_start nb n free)
    unfolding choose_start
    choose_free w lt fr = settled_free _ _ (least_free (degree nb) w lt fr)

-- fewer than n placed leave one unplaced
pub some_unplaced : (n : ℕ) (placed : List ℕ) → length placed < n → (w : ℕ) × (w < n) × (among placed w ≡ false)
some_unplaced n placed lt = go (passing (λ v. not (among placed v)) (numbers n)) refl
  where
    t : ℕ → Bool
    t v = not (among placed v)

    held : passing t (numbers n) ≡ [] → (w : ℕ) → In w (numbers n) → (b : Bool) → among placed w ≡ b → In w placed
    held e w a true p = among_true placed w p
    held e w a false p = absurd (at_nil (subst (λ (l : List ℕ). In w l) e (in_passing t (numbers n) w a (ap not p))).1)

    go : (l : List ℕ) → passing t (numbers n) ≡ l → (w : ℕ) × (w < n) × (among placed w ≡ false)
    go [] e =
        let p = pigeon (numbers n) placed (numbers_distinct n) (λ i w a. held e w (i, a) (among placed w) refl) in
        absurd (omega (arith, length_numbers n))
    go (x ∷ l) e =
        let m = passing_in t (numbers n) x (subst (λ (r : List ℕ). In x r) (sym e) (0, first refl)) in
        (x, numbers_below n x m.0, not-true (among placed x) m.1)

pub start_free : (nb : ℕ → List ℕ) (n : ℕ) (placed : List ℕ) → ((v w : ℕ) → v < n → In w (nb v) → w < n) → length placed < n
    → (start_after nb n placed < n) × (In (start_after nb n placed) placed → ⊥)
start_free nb n placed near lt =
    let u = some_unplaced n placed lt in
    let f = choose_free nb n (λ v. not (among placed v)) near u.0 u.1 (ap not u.2) in
    (f.0, among_false placed _ (not-true (among placed (start_after nb n placed)) f.1))
