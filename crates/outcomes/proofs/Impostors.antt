-- The impostors, shut out. Assumes nothing.
use Prim.Native.Nat.{ℕ, zero, suc, ◌+◌, ◌*◌, ◌<◌, min}
use native.Mathlib.Omega.{arith}
use lib.ListN.{get_or, length}
use mathlib.Core.Path.{◌≡◌, refl, sym, ap, ◌∙◌}
use mathlib.Core.List.{[], ◌∷◌}
use mathlib.Core.Logic.{◌⊎◌, inl, inr, ⊎_elim}
use Rattle.law.specs.Limit.{tally}
use Rattle.law.specs.Refusal.{Verdict}
use Rattle.law.specs.Promise.{by, outcome}
use Rattle.law.proofs.Promise.{zero_from}
use Rattle.matrix_pairs.specs.Pairs.{Together}
use Rattle.order_demand3.specs.Demand.{Chain, stay, link, Chained, Ordered}
use Rattle.step_tally.specs.Runs.{fresh, solves}
use Rattle.step_doors.specs.Calls.{asks_of, sum_of_calls}
use Rattle.outcomes.specs.Impostors.{NoGoodCallRefused, NoConstantOrder, NoSilentTally}

pub no_good_call_refused : NoGoodCallRefused
unfolding outcome
no_good_call_refused I O d i o h e = e ∙ ap (λ (v : Verdict). by v (d.work i) (λ j. d.refuse j i)) (zero_from d i h)

-- ---- the pair a-c joins nobody else

module _ (a c : ℕ) where
  -- one of the two
  abbrev Either : ℕ → Type 0
  Either x = (x ≡ a) ⊎ (x ≡ c)

  across : (i x y : ℕ) → i < 1 → (((get_or (a ∷ c ∷ []) (2 * i) 0 ≡ x) × (get_or (a ∷ c ∷ []) (2 * i + 1) 0 ≡ y))
      ⊎ ((get_or (a ∷ c ∷ []) (2 * i) 0 ≡ y) × (get_or (a ∷ c ∷ []) (2 * i + 1) 0 ≡ x))) → Either y
  across zero x y l h = ⊎_elim (λ e. inr (sym e.1)) (λ e. inl (sym e.0)) h
  across (suc i) x y l h = absurd (omega arith)

  one_link : (x y : ℕ) → Either x → Together (a ∷ c ∷ []) 1 x y → Either y
  one_link x y p s = ⊎_elim (λ e. ⊎_elim (λ h. inl (sym e ∙ h)) (λ h. inr (sym e ∙ h)) p) (λ q. across q.0 x y q.1.0 q.1.1) s

  along : {x y k : ℕ} → Chain (Together (a ∷ c ∷ []) 1) x y k → Either x → Either y
  along stay p = p
  along (link {a = x} {b = z} s ch) p = along ch (one_link x z p s)

pub no_constant_order : NoConstantOrder
no_constant_order o h =
    let r : Ordered 3 (Together (0 ∷ 0 ∷ []) 1) o = h 0 0 (omega arith) (omega arith) in
    let s : Ordered 3 (Together (o 0 ∷ o 2 ∷ []) 1) o = h (o 0) (o 2) (r.below 0 (omega arith)) (r.below 2 (omega arith)) in
    let ends : Chained (Together (o 0 ∷ o 2 ∷ []) 1) (o 0) (o 2) = (1, link (inr (0, (omega arith, inl (refl, refl)))) stay) in
    let middle = (s.unbroken 0 1 2 (omega arith) (omega arith) (omega arith) ends).0 in
    ⊎_elim
    (λ e. let z = r.once 1 0 (omega arith) (omega arith) e in absurd (omega arith))
    (λ e. let z = r.once 1 2 (omega arith) (omega arith) e in absurd (omega arith))
    (along (o 0) (o 2) middle.1 (inl refl))

none_of : (k : ℕ) → 0 ≡ min tally k → k ≡ 0
none_of k e = omega (arith, e)

pub no_silent_tally : NoSilentTally
no_silent_tally l m = none_of (length (solves (asks_of l))) (sum_of_calls l fresh m)
