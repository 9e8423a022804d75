-- What follows of specs/Promise.antt: its theorems, apart from the definitions.
use Rattle.std.specs.Prelude.{◌≡◌, ◌⊎◌}
use Rattle.std.proofs.Math.Path.{refl, ap}
use Rattle.std.proofs.Common.{sym, ◌∙◌}
use Rattle.std.proofs.Math.Logic.{inl, inr}
use Rattle.std.specs.Prelude.{◌≤◌, Ok, Err}
use Rattle.law.specs.declared.refusal.Refusal.{Refusal}
use Rattle.law.specs.Number.{number}
use Rattle.law.specs.Refusal.{Verdict, told, verdict, Passed, Fails}
use Rattle.law.proofs.Refusals.{all_pass, none_fails, it_fails, it_is_lowest, number_above}
use Rattle.law.specs.Promise.{Counted, Door, IsRefusal, IsWork, Promise, by, outcome}

-- EVERY PROMISE ADMITS ONE OUTCOME, and not none
pub one_outcome : {I O : Type 0} (d : Door I O) (i : I) (o p : O) → Promise d i o → Promise d i p → o ≡ p
one_outcome d i o p h g = h ∙ sym g

pub some_outcome : {I O : Type 0} (d : Door I O) (i : I) → Promise d i (outcome d i)
some_outcome d i = refl

-- WHAT A DOOR'S VERDICT MEANS: Ok is all the tests, both ways; a refusal is that of a test that fails, with the lowest number among those
module _ {I O : Type 0} (d : Door I O) (i : I) where
  pub zero_is : Ok tt ≡ verdict (d.tests i) → Passed (d.tests i)
  zero_is h = all_pass (d.tests i) h

  pub zero_from : Passed (d.tests i) → verdict (d.tests i) ≡ Ok tt
  zero_from h = none_fails (d.tests i) h

  pub lowest_first : (k : Refusal) → Fails (d.tests i) k → told (verdict (d.tests i)) ≤ number k
  lowest_first k f = it_is_lowest 1 (d.tests i) (d.in_order i) k f

  pub given_exactly : (k : Refusal) → verdict (d.tests i) ≡ Err k → Fails (d.tests i) k
  given_exactly k h = it_fails (d.tests i) k h

-- THE TWO RETURNS of a door's code: the verdict is what its refusal function answered
module _ {I O : Type 0} (d : Door I O) (i : I) where
  pub refuses : (k : Refusal) → Err k ≡ verdict (d.tests i) → Promise d i (d.refuse k i)
  unfolding outcome
  refuses k e = ap (λ (v : Verdict). by v (d.work i) (λ j. d.refuse j i)) e

  pub accepts : Ok tt ≡ verdict (d.tests i) → (o : O) → o ≡ d.work i → Promise d i o
  unfolding outcome
  accepts e o h = h ∙ ap (λ (v : Verdict). by v (d.work i) (λ j. d.refuse j i)) e

pub one_count : {I O T : Type 0} (d : Door I O) (counts : T → O → T) (i : I) (t : T) (o p : O) (u v : T) → Counted d counts i t o u
    → Counted d counts i t p v → (o ≡ p) × (u ≡ v)
one_count d counts i t o p u v h g =
    let e : o ≡ p = one_outcome d i o p h.0 g.0 in
    (e, h.1 ∙ ap (counts t) e ∙ sym g.1)

-- WHAT A PROMISE SAYS OF AN OUTCOME: it is the work, and the verdict is Ok; or it is the refusal that the verdict has, whose number is above 0
module _ {I O : Type 0} (d : Door I O) (i : I) (o : O) where
  pub work_or_refusal : Promise d i o → (IsWork d i o) ⊎ ((k : Refusal) × (IsRefusal d i o) k)
  unfolding outcome
  work_or_refusal = go (verdict (d.tests i)) refl
    where
      go : (v : Verdict) → verdict (d.tests i) ≡ v → o ≡ by v (d.work i) (λ j. d.refuse j i) → (IsWork d i o) ⊎ ((k : Refusal) × (IsRefusal d i o) k)
      go (Ok tt) e h = inl (e, h)
      go (Err k) e h = inr (k, (number_above k, (e, h)))
