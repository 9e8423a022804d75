-- What is placed is below n and stands once, for any start that is free and any additions
-- that are new; so at most n are placed, and each place is filled in its turn.
use Prim.Native.Nat.{ℕ, zero, suc, ◌≤◌, ◌<◌}
use native.Mathlib.Omega.{arith}
use mathlib.Core.Path.{◌≡◌, refl, sym, subst}
use mathlib.Core.Logic.{◌⊎◌, inl, inr}
use mathlib.Core.Bool.{Bool, true, false}
use mathlib.Core.List.{List, [], ◌∷◌, ◌++◌}
use lib.ListN.{length, get_or, length-append}
use lib.Dec.{ltb}
use borrow.Author.Tests.{ltb-true, ltb-false}
use Rattle.order_definition.specs.Order.{placing, filled}
use Rattle.order_definition.proofs.At.{at_nil, get_d_at, In, one_at}
use Rattle.order_definition.proofs.Pigeon.{Distinct, distinct_nil, distinct_one, distinct_append, in_append, few}

pub record Adding (n : ℕ) (start : List ℕ → ℕ) (adds : List ℕ → ℕ → List ℕ) : Type 0 where
  pub free : (o : List ℕ) → length o < n → (start o < n) × (In (start o) o → ⊥)
  pub below : (o : List ℕ) (v w : ℕ) → v < n → In w (adds o v) → w < n
  pub new : (o : List ℕ) (v w : ℕ) → In w (adds o v) → In w o → ⊥
  pub once : (o : List ℕ) (v : ℕ) → v < n → Distinct (adds o v)

module _ (n : ℕ) where
  record OnceBelow (o : List ℕ) : Type 0 where
    pub once : Distinct o
    pub below : (w : ℕ) → In w o → w < n

  -- and place h is filled
  abbrev Fits : ℕ → List ℕ → Type 0
  Fits h o = OnceBelow o × (h < length o)

  more : (o l : List ℕ) → OnceBelow o → Distinct l → ((w : ℕ) → In w l → w < n) → ((w : ℕ) → In w l → In w o → ⊥) → OnceBelow (o ++ l)
  more o l h d b f = record { once = distinct_append o l h.once d (λ w x y. f w y x); below = λ w a. go w (in_append o l w a) }
    where
      go : (w : ℕ) → In w o ⊎ In w l → w < n
      go w (inl a) = h.below w a
      go w (inr a) = b w a

  module _ (start : List ℕ → ℕ) (adds : List ℕ → ℕ → List ℕ) (g : Adding n start adds) where
    fill : (h : ℕ) (o : List ℕ) → h < n → OnceBelow o → h ≤ length o → Fits h (filled start adds o h)
    fill h o lt l le = go (ltb h (length o)) refl
      where
        go : (b : Bool) → ltb h (length o) ≡ b → Fits h (elim b [ true ↦ o | false ↦ o ++ (start o ∷ []) ])
        go true p = (l, ltb-true h (length o) p)
        go false p =
            let s = g.free o (omega (arith, ltb-false h (length o) p)) in (
              more o (start o ∷ []) l (distinct_one (start o)) (λ w a. subst (λ (k : ℕ). k < n) (one_at a.1).1 s.0)
                  (λ w a b. s.1 (subst (λ (k : ℕ). In k o) (sym (one_at a.1).1) b)),
              omega (arith, length-append o (start o ∷ [])),
            )

    walk : (h : ℕ) → h ≤ n → OnceBelow (placing start adds h) × (h ≤ length (placing start adds h))
    unfolding placing
    walk zero le = (record { once = distinct_nil; below = λ w a. absurd (at_nil a.1) }, omega arith)
    walk (suc h) le =
        let w = walk h (omega arith) in
        let f = fill h (placing start adds h) le w.0 w.1 in
        let o = filled start adds (placing start adds h) h in
        let v = get_or o h 0 in
        let v_below : v < n = f.0.below v (h, get_d_at o h 0 f.1) in (
          more o (adds o v) f.0 (g.once o v v_below) (λ x a. g.below o v x v_below a) (λ x a. g.new o v x a),
          omega
              (arith, f.1, length-append o (adds o v)),
        )

    pub placed_below : (h : ℕ) → h ≤ n → (w : ℕ) → In w (placing start adds h) → w < n
    placed_below h le = (walk h le).0.below

    pub placed_few : (h : ℕ) → h ≤ n → length (placing start adds h) ≤ n
    placed_few h le = let l = (walk h le).0 in few n (placing start adds h) l.once (λ i w a. l.below w (i, a))

    pub placed_far : (h : ℕ) → h ≤ n → h ≤ length (placing start adds h)
    placed_far h le = (walk h le).1

    pub filled_below : (h : ℕ) → h < n → (w : ℕ) → In w (filled start adds (placing start adds h) h) → w < n
    filled_below h lt = let w = walk h (omega arith) in (fill h (placing start adds h) lt w.0 w.1).0.below

    pub filled_far : (h : ℕ) → h < n → h < length (filled start adds (placing start adds h) h)
    filled_far h lt = let w = walk h (omega arith) in (fill h (placing start adds h) lt w.0 w.1).1
