-- What follows of specs/Nine.antt: its theorems, apart from the definitions.
use Prim.Native.Nat.{ℕ}
use Rattle.std.specs.Prelude.{◌≡◌, Bool, List, ◌⊎◌, Ok, Err}
use Rattle.std.proofs.Math.Path.{refl, ap}
use Rattle.std.proofs.Math.Bool.{true, false, cond}
use Rattle.std.proofs.Math.Logic.{inl, inr}
use native.Mathlib.Omega.{arith}
use Rattle.law.specs.declared.refusal.Refusal.{Refusal}
use Rattle.law.specs.declared.refusal.Refusal.TheVariants.{BadText}
use Rattle.law.specs.Promise.{Door, by, outcome, Promise}
use Rattle.law.specs.Refusal.{Test, Verdict, told, verdict, Under}
use Rattle.law.proofs.Refusals.{verdict_under}
use Rattle.bench_text.specs.Text.{described}
use Rattle.bench_text.specs.Nine.{PromiseBy, verdict_by, outcome_by}

-- ---- what the verdict means

module _ (text : List ℕ) (tests : List Test) where
  -- Ok: the text is as described, and no test fails
  pub no_nine : verdict_by text tests ≡ Ok tt → (described text ≡ true) × (verdict tests ≡ Ok tt)
  unfolding verdict_by
  no_nine h = go (described text) h
    where
      go : (d : Bool) → cond d (verdict tests) (Err BadText) ≡ Ok tt → (d ≡ true) × (verdict tests ≡ Ok tt)
      go true h = (refl, h)
      go false h = absurd (let z : ◌≡◌ {A = Verdict} (Err BadText) (Ok tt) = h in cc)

  -- 9: exactly if it is not as described
  pub nine_is : Under 9 tests → verdict_by text tests ≡ Err BadText → described text ≡ false
  unfolding verdict_by
  nine_is u h = go (described text) h
    where
      go : (d : Bool) → cond d (verdict tests) (Err BadText) ≡ Err BadText → d ≡ false
      go true h = let z : told (verdict tests) ≡ 9 = ap told h in absurd (omega (arith, verdict_under 9 tests (omega arith) u))
      go false h = refl

  pub nine_of : described text ≡ false → verdict_by text tests ≡ Err BadText
  unfolding verdict_by
  nine_of h = rw h

  pub its_tests : described text ≡ true → verdict_by text tests ≡ verdict tests
  unfolding verdict_by
  its_tests h = rw h

-- ---- the two ways of a door's code, and what its promise says

module _ {I O : Type 0} (d : Door I O) (text : List ℕ) (i : I) where
  pub not_described : described text ≡ false → PromiseBy d text i (d.refuse BadText i)
  unfolding outcome_by
  not_described h = rw (nine_of text (d.tests i) h)

  pub refused_by : (k : Refusal) → verdict_by text (d.tests i) ≡ Err k → PromiseBy d text i (d.refuse k i)
  unfolding outcome_by
  refused_by k e = rw e

  pub is_described : (o : O) → described text ≡ true → Promise d i o → PromiseBy d text i o
  unfolding outcome_by outcome
  is_described o h p = rw (its_tests text (d.tests i) h) p

  -- it is the work, and the verdict is Ok; or it is the refusal that the verdict has
  pub work_or_refusal : (o : O) → PromiseBy d text i o → ((verdict_by text (d.tests i) ≡ Ok tt) × (o ≡ d.work i))
      ⊎ ((k : Refusal) × ((verdict_by text (d.tests i) ≡ Err k) × (o ≡ d.refuse k i)))
  unfolding outcome_by
  work_or_refusal o = go (verdict_by text (d.tests i)) refl
    where
      go : (v : Verdict) → verdict_by text (d.tests i) ≡ v → o ≡ by v (d.work i) (λ j. d.refuse j i)
          → ((verdict_by text (d.tests i) ≡ Ok tt) × (o ≡ d.work i)) ⊎ ((k : Refusal) × ((verdict_by text (d.tests i) ≡ Err k) × (o ≡ d.refuse k i)))
      go (Ok tt) e h = inl (e, h)
      go (Err k) e h = inr (k, (e, h))
