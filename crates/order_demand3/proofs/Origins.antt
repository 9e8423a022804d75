-- Whoever is placed was chosen as a start, or stores a block with somebody before it. Assumes nothing.
use Prim.Native.Nat.{ℕ, zero, suc, ◌+◌, ◌≤◌, ◌<◌}
use native.Mathlib.Omega.{arith}
use mathlib.Core.Path.{◌≡◌, sym, ap, ◌∙◌, subst}
use mathlib.Core.Logic.{◌⊎◌, inl, inr}
use mathlib.Core.Bool.{Bool, true, false}
use mathlib.Core.List.{List, [], ◌∷◌, ◌++◌}
use lib.Dec.{ltb}
use lib.ListN.{length, get_or, take}
use lib.Seq.{take-append-le, take_at}
use Rattle.order_definition.specs.Order.{placing, filled}
use Rattle.order_definition.proofs.At.{At, at_nil, at_lt, at_left, at_cases, get_d_at, one_at}
use Rattle.order_definition.proofs.Placed.{Adding, filled_below, filled_far}

module _ (S : ℕ → ℕ → Type 0) (n : ℕ) (start : List ℕ → ℕ) (adds : List ℕ → ℕ → List ℕ) (g : Adding n start adds)
    (stored : (o : List ℕ) (v i w : ℕ) → v < n → At (adds o v) i w → S v w) where
  -- w stands at place j of o: chosen when those before it were placed, or added by one of them
  abbrev pub Origin : List ℕ → ℕ → ℕ → Type 0
  Origin o j w = (w ≡ start (take j o)) ⊎ ((i v : ℕ) × (i < j) × (v < n) × At o i v × S v w)

  abbrev Known : List ℕ → Type 0
  Known o = (j w : ℕ) → At o j w → Origin o j w

  longer : (o l : List ℕ) → Known o → ((j w : ℕ) → At l j w → Origin (o ++ l) (length o + j) w) → Known (o ++ l)
  longer o l f h j w a = go (at_cases o a)
    where
      old : At o j w → Origin o j w → Origin (o ++ l) j w
      old x (inl e) = let lt = at_lt x in inl (e ∙ ap start (sym (take-append-le j o l (omega arith))))
      old x (inr t) = inr (t.0, t.1, t.2, t.3, at_left l t.4, t.5)

      go : At o j w ⊎ ((k : ℕ) × (j ≡ length o + k) × At l k w) → Origin (o ++ l) j w
      go (inl x) = old x (f j w x)
      go (inr x) = subst (λ (k : ℕ). Origin (o ++ l) k w) (sym x.1) (h x.0 w x.2)

  filled_known : (h : ℕ) (o : List ℕ) → Known o → Known (filled start adds o h)
  filled_known h o f = go (ltb h (length o))
    where
      go : (b : Bool) → Known (elim b [ true ↦ o | false ↦ o ++ (start o ∷ []) ])
      go true = f
      go false = longer o (start o ∷ []) f
          (λ j w a. let q = one_at a in inl (sym q.1 ∙ ap start (sym (take_at o (start o ∷ []) (length o + j) (omega (arith, q.0))))))

  pub origin : (h : ℕ) → h ≤ n → (j w : ℕ) → At (placing start adds h) j w → Origin (placing start adds h) j w
  unfolding placing
  origin zero le = λ j w a. absurd (at_nil a)
  origin (suc h) le =
      let o = filled start adds (placing start adds h) h in
      let v = get_or o h 0 in
      let far = filled_far n start adds g h le in
      let here : At o h v = get_d_at o h 0 far in
      let below : v < n = filled_below n start adds g h le v (h, here) in
      longer o (adds o v) (filled_known h (placing start adds h) (origin h (omega arith)))
      (λ j w a. inr (h, v, omega (arith, far), below, at_left (adds o v) here, stored o v j w below a))
