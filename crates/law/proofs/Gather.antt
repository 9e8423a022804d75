-- What follows of specs/Gather.antt: its theorems, apart from the definitions.
use Rattle.std.specs.Prelude.{ℕ, ◌+◌, ◌*◌, ◌≤◌, ◌<◌, ◌≡◌, refl}
use Rattle.std.proofs.Math.Path.{ap}
use Rattle.std.proofs.Common.{sym, ◌∙◌, ⊎_elim, arith, mul-zero, mul-suc, add-one, ext_get_or}
use mathlib.Core.List.{List, [], ◌∷◌, ◌++◌, append_assoc, append-nil}
use Rattle.std.proofs.Math.ListN.{length, get_or, length-append, get_or-append}
use Rattle.std.proofs.Math.Seq.{get_or-append-add}
use Rattle.law.proofs.Loop.{over_none, over_more, from}
use Rattle.law.specs.Truth.{below_or}
use Rattle.law.specs.Gather.{gather, table, up_to}

module _ {A : Type 0} (g : ℕ → List A) where
  pub gather_none : (a : ℕ) → [] ≡ gather g a a
  unfolding gather
  gather_none a = over_none (λ i l. l ++ g i) a []

  pub gather_more : (a k : ℕ) → a ≤ k → gather g a k ++ g k ≡ gather g a (k + 1)
  unfolding gather
  gather_more a k h = over_more (λ i l. l ++ g i) a k [] h

  pub gather_split : (a b c : ℕ) → a ≤ b → b ≤ c → gather g a c ≡ gather g a b ++ gather g b c
  gather_split a b c h l =
      from (λ c. gather g a c ≡ gather g a b ++ gather g b c) b
      (sym (ap (λ (t : List A). gather g a b ++ t) (sym (gather_none b)) ∙ append-nil (gather g a b)))
      (λ k q e. sym (gather_more a k (omega arith)) ∙ ap (λ (t : List A). t ++ g k) e ∙ append_assoc (gather g a b) (gather g b k) (g k)
      ∙ ap (λ (t : List A). gather g a b ++ t) (gather_more b k q))
      c l

  pub up_to_none : (up_to g) 0 ≡ 0
  unfolding up_to
  up_to_none = ap length (sym (gather_none 0))

  pub up_to_more : (r : ℕ) → (up_to g) (r + 1) ≡ (up_to g) r + length (g r)
  unfolding up_to
  up_to_more r = ap length (sym (gather_more 0 r (omega arith))) ∙ length-append (gather g 0 r) (g r)

  pub up_to_rise : (r s : ℕ) → r ≤ s → (up_to g) r ≤ (up_to g) s
  up_to_rise r s l = from (λ s. (up_to g) r ≤ (up_to g) s) r (omega arith) (λ k q h. omega (arith, up_to_more k)) s l

  -- where every part is w long
  pub up_to_even : (w : ℕ) → ((j : ℕ) → length (g j) ≡ w) → (r : ℕ) → (up_to g) r ≡ w * r
  up_to_even w long r =
      from (λ r. (up_to g) r ≡ w * r) 0 (up_to_none ∙ sym (mul-zero w))
      (λ k q h. let m : w * (k + 1) ≡ w * k + w = ap (λ (i : ℕ). w * i) (add-one k) ∙ mul-suc w k in omega (arith, up_to_more k, long k)) r (omega arith)

  -- what stands at place j of part r
  pub gather_at : (n r j : ℕ) (d : A) → r < n → j < length (g r) → get_or (gather g 0 n) ((up_to g) r + j) d ≡ get_or (g r) j d
  unfolding up_to
  gather_at n r j d l h =
      let s : gather g 0 n ≡ (gather g 0 r ++ g r) ++ gather g (r + 1) n =
      gather_split 0 (r + 1) n (omega arith) (omega arith) ∙ ap (λ (t : List A). t ++ gather g (r + 1) n) (sym (gather_more 0 r (omega arith))) in
      ap (λ (t : List A). get_or t (length (gather g 0 r) + j) d) (s ∙ append_assoc (gather g 0 r) (g r) (gather g (r + 1) n))
      ∙ get_or-append-add (gather g 0 r) (g r ++ gather g (r + 1) n) j d
      ∙ get_or-append (g r) (gather g (r + 1) n) d j h

  -- which part a place is in
  pub gather_in : (n k : ℕ) → k < (up_to g) n → (r : ℕ) × ((r < n) × (((up_to g) r ≤ k) × (k < (up_to g) (r + 1))))
  gather_in n =
      from (λ n. (k : ℕ) → k < (up_to g) n → (r : ℕ) × ((r < n) × (((up_to g) r ≤ k) × (k < (up_to g) (r + 1))))) 0
      (λ k h. absurd (omega (arith, up_to_none)))
      (λ m q ih k h. ⊎_elim (λ l. let t = ih k l in (t.0, (omega (arith, t.1.0), t.1.1))) (λ l. (m, (omega arith, (l, h)))) (below_or k ((up_to g) m)))
      n (omega arith)

pub gather_same : {A : Type 0} (f g : ℕ → List A) (a b : ℕ) → a ≤ b → ((k : ℕ) → a ≤ k → k < b → f k ≡ g k) → gather f a b ≡ gather g a b
gather_same {A} f g a b h =
    from (λ b. ((k : ℕ) → a ≤ k → k < b → f k ≡ g k) → gather f a b ≡ gather g a b) a
    (λ _. sym (gather_none f a) ∙ gather_none g a)
    (λ k q ih e. sym (gather_more f a k q) ∙ ap (λ (t : List A). t ++ f k) (ih (λ i l u. e i l (omega arith)))
    ∙ ap (λ (t : List A). gather g a k ++ t) (e k q (omega arith)) ∙ gather_more g a k q)
    b h

-- ---- how long parts are together, by how long each is

-- where every part but x is empty, and x is one long at most
pub single : {A : Type 0} (g : ℕ → List A) (x : ℕ) → ((r : ℕ) → (r ≡ x → ⊥) → length (g r) ≡ 0) → length (g x) ≤ 1 → (r : ℕ) → up_to g r ≤ 1
single g x none one r = (from (λ r. (up_to g r ≤ 1) × (r ≤ x → up_to g r ≡ 0)) 0 (let z = up_to_none g in (omega arith, λ _. omega arith))
    (λ k q h. step k h) r (omega arith)).0
  where
    step : (k : ℕ) → (up_to g k ≤ 1) × (k ≤ x → up_to g k ≡ 0) → (up_to g (k + 1) ≤ 1) × (k + 1 ≤ x → up_to g (k + 1) ≡ 0)
    step k h =
        let more = up_to_more g k in
        ⊎_elim (λ l. let z = h.1 (omega arith) in let w = none k (λ e. omega arith) in (omega arith, λ _. omega arith))
        (λ l. ⊎_elim (λ m. let w = none k (λ e. omega arith) in (omega (arith, h.0), λ i. absurd (omega arith)))
        (λ m. let e : k ≡ x = omega arith in let z = h.1 (omega arith) in let w : length (g k) ≤ 1 = rw e one in (omega arith, λ i. absurd (omega arith)))
        (below_or x k))
        (below_or k x)

-- where each part of f is no longer than g's and h's together
pub up_to_sum : {A B C : Type 0} (f : ℕ → List A) (g : ℕ → List B) (h : ℕ → List C) → ((r : ℕ) → length (f r) ≤ length (g r) + length (h r)) → (r : ℕ)
    → up_to f r ≤ up_to g r + up_to h r
up_to_sum f g h e r =
    from (λ r. up_to f r ≤ up_to g r + up_to h r) 0 (omega (arith, up_to_none f))
    (λ k q i. omega (arith, e k, up_to_more f k, up_to_more g k, up_to_more h k)) r (omega arith)

module _ (f : ℕ → ℕ) where
  pub up_to_table : (n : ℕ) → up_to (λ i. f i ∷ []) n ≡ n
  up_to_table n = let e = up_to_even (λ i. f i ∷ []) 1 (λ j. refl) n in omega arith

  pub length_table : (n : ℕ) → length (table f n) ≡ n
  unfolding up_to
  length_table n = up_to_table n

  pub table_at : (n i : ℕ) → i < n → get_or (table f n) i 0 ≡ f i
  table_at n i l =
      let e : up_to (λ i. f i ∷ []) i + 0 ≡ i = omega (arith, up_to_table i) in
      rw e at (gather_at (λ i. f i ∷ []) n i 0 0 l (omega arith))

  -- a list that holds f's numbers is f's table
  pub table_of : (n : ℕ) (l : List ℕ) → length l ≡ n → ((i : ℕ) → i < n → get_or l i 0 ≡ f i) → l ≡ table f n
  table_of n l e h = ext_get_or 0 l (table f n) (e ∙ sym (length_table n)) (λ i g. h i (omega arith) ∙ sym (table_at n i (omega arith)))
