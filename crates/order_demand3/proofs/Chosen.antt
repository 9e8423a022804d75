-- The pick of a list is the one whose key is before that of every other. Assumes nothing.
use Prim.Native.Nat.{ℕ}
use mathlib.Core.Path.{◌≡◌, refl, sym, ◌∙◌, subst}
use mathlib.Core.Logic.{◌⊎◌, inl, inr}
use mathlib.Core.Bool.{Bool, true, false, cond, false≢true}
use mathlib.Core.List.{List, [], ◌∷◌}
use Rattle.law.specs.Truth.{same_or}
use Rattle.order_definition.specs.Order.{before, lower, least_from, least}
use Rattle.order_definition.proofs.At.{at_nil, In}
use Rattle.order_definition.proofs.Pigeon.{in_cons, in_head, in_tail}
use Rattle.order_definition.proofs.Lists.{least_in}
use Rattle.order_demand3.specs.Keys.{Before, Untied, Least}
use Rattle.order_demand3.proofs.Keys.{untied}

module _ (d : ℕ → ℕ) where
  abbrev u : Untied d
  u = untied d

  -- who comes before b or before x comes before the lower of the two
  lower_first : (b x m : ℕ) → (Before d (lower d b x) m → ⊥) → (Before d b m → ⊥) × (Before d x m → ⊥)
  lower_first b x m f = go (before d x b) refl f
    where
      passed : (b ≡ x) ⊎ (b ≡ x → ⊥) → before d x b ≡ false → (Before d b m → ⊥) → Before d x m → ⊥
      passed (inl e) p f t = f (subst (λ (k : ℕ). Before d k m) (sym e) t)
      passed (inr n) p f t = after (u.either b x n)
        where
          after : Before d b x ⊎ Before d x b → ⊥
          after (inl q) = f (u.onward b x m q t)
          after (inr q) = false≢true (sym p ∙ u.tests x b q)

      go : (t : Bool) → before d x b ≡ t → (Before d (cond t x b) m → ⊥) → (Before d b m → ⊥) × (Before d x m → ⊥)
      go true p f = (λ (q : Before d b m). f (u.onward x b m (u.tested x b p) q), f)
      go false p f = (f, passed (same_or b x) p f)

  none_before : (b : ℕ) (l : List ℕ) (w : ℕ) → In w (b ∷ l) → Before d w (least_from d b l) → ⊥
  none_before b [] w a = go (in_cons b [] w a)
    where
      go : (b ≡ w) ⊎ In w [] → Before d w b → ⊥
      go (inl e) t = let s : Before d b b = subst (λ (k : ℕ). Before d k b) (sym e) t in u.one_way b b s s
      go (inr m) t = at_nil m.1
  none_before b (x ∷ l) w a =
      let ih = none_before (lower d b x) l in
      let low = lower_first b x (least_from d (lower d b x) l) (ih (lower d b x) (in_head (lower d b x) l (lower d b x) refl)) in
      go low (λ (m : In w l). ih w (in_tail (lower d b x) l w m)) (in_cons b (x ∷ l) w a)
    where
      m : ℕ
      m = least_from d (lower d b x) l

      rest : (Before d x m → ⊥) → (In w l → Before d w m → ⊥) → (x ≡ w) ⊎ In w l → Before d w m → ⊥
      rest f g (inl e) t = f (subst (λ (k : ℕ). Before d k m) (sym e) t)
      rest f g (inr p) t = g p t

      go : (Before d b m → ⊥) × (Before d x m → ⊥) → (In w l → Before d w m → ⊥) → (b ≡ w) ⊎ In w (x ∷ l) → Before d w m → ⊥
      go f g (inl e) t = f.0 (subst (λ (k : ℕ). Before d k m) (sym e) t)
      go f g (inr p) t = rest f.1 g (in_cons x l w p) t

  -- the pick of a list that has one is the least of its members
  pub least_of : (z : ℕ) (l : List ℕ) (w : ℕ) → In w l → Least d (λ v. In v l) (least z d l)
  least_of z [] w a = absurd (at_nil a.1)
  least_of z (x ∷ l) w a = record {
    among = least_in z d (x ∷ l) w a;
    first = λ v b ne. go v b
        (u.either (least_from d x l) v (λ (e : least_from d x l ≡ v). ne (sym e)));
  }
    where
      go : (v : ℕ) → In v (x ∷ l) → Before d (least_from d x l) v ⊎ Before d v (least_from d x l) → Before d (least_from d x l) v
      go v b (inl p) = p
      go v b (inr p) = absurd (none_before x l v b p)

  -- the least stays the least, however its company is told
  pub least_as : (P Q : ℕ → Type 0) (x : ℕ) → Least d P x → ((w : ℕ) → P w → Q w) → ((w : ℕ) → Q w → P w) → Least d Q x
  least_as P Q x h f g = record { among = f x h.among; first = λ w q ne. h.first w (g w q) ne }

  -- and it is the only one
  pub least_one : (P : ℕ → Type 0) (x y : ℕ) → Least d P x → Least d P y → x ≡ y
  least_one P x y p q = go (same_or x y)
    where
      go : (x ≡ y) ⊎ (x ≡ y → ⊥) → x ≡ y
      go (inl e) = e
      go (inr ne) = absurd (u.one_way x y (p.first y q.among (λ e. ne (sym e))) (q.first x p.among ne))
