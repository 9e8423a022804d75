-- What follows of specs/Refusal.antt: its theorems, apart from the definitions.
use Rattle.std.specs.Prelude.{ℕ, ◌≤◌, ◌<◌, ◌≡◌, refl, Bool, true, false, not, cond, List, [], ◌∷◌, ◌++◌, Ok, Err}
use Rattle.std.proofs.Common.{arith, inl, inr, ⊎_elim, sym, ap, ◌∙◌}
use Rattle.std.proofs.lemmas.Bool.{not-true, not-false}
use Rattle.law.specs.declared.refusal.Refusal.{Refusal}
use Rattle.law.specs.declared.refusal.Refusal.TheVariants.{TooManyParticles, TooManyEntries, ShortBuffer, OutOfRange, BadPattern, BadPlan, LongEnvelope, BadSettings, BadText}
use Rattle.law.specs.Number.{number}
use Rattle.law.specs.Refusal.{Fails, Passed, Rising, Test, Under, Verdict, told, unless, verdict, when}

-- no refusal bears 0, which is acceptance
pub number_above : (k : Refusal) → 0 < number k
number_above TooManyParticles = omega arith
number_above TooManyEntries = omega arith
number_above ShortBuffer = omega arith
number_above OutOfRange = omega arith
number_above BadPattern = omega arith
number_above BadPlan = omega arith
number_above LongEnvelope = omega arith
number_above BadSettings = omega arith
number_above BadText = omega arith

-- ---- the phases of a function that works the refusal out: r is what it answers from here on

pub goes_on : (k : Refusal) (t : Bool) (ts : List Test) (r : Verdict) → t ≡ true → r ≡ verdict ts → r ≡ verdict (unless k t ∷ ts)
unfolding verdict
goes_on k t ts r h e = e ∙ ap (λ (x : Bool). cond x (verdict ts) (Err k)) (sym h)

pub stops : (k : Refusal) (t : Bool) (ts : List Test) → t ≡ false → Err k ≡ verdict (unless k t ∷ ts)
unfolding verdict
stops k t ts h = ap (λ (x : Bool). cond x (verdict ts) (Err k)) (sym h)

pub ends : Ok tt ≡ verdict []
unfolding verdict
ends = refl

pub when_is : (d t : Bool) → when d t ≡ true → d ≡ true → t ≡ true
unfolding when
when_is d t h e = rw e at h

-- as the code makes it: if !d { return true; } t
pub skips : (d t : Bool) → not d ≡ true → true ≡ when d t
unfolding when
skips d t h = rw (not-true d h)

pub applies : (d t r : Bool) → not d ≡ false → r ≡ t → r ≡ when d t
unfolding when
applies d t r h e = rw (not-false d h) e

passed_or : (t : Test) (ts : List Test) (x : Bool) → t.passes ≡ x → verdict (t ∷ ts) ≡ Ok tt → (verdict ts ≡ Ok tt → Passed ts) → Passed (t ∷ ts)
unfolding verdict
passed_or t ts true e h more = (e, more (ap (λ (y : Bool). cond y (verdict ts) (Err t.refusal)) (sym e) ∙ h))
passed_or t ts false e h more =
    let z : ◌≡◌ {A = Verdict} (Err t.refusal) (Ok tt) = ap (λ (y : Bool). cond y (verdict ts) (Err t.refusal)) (sym e) ∙ h in
    absurd (let w = z in cc)

pub all_pass : (ts : List Test) → Ok tt ≡ verdict ts → Passed ts
all_pass [] h = tt
all_pass (t ∷ ts) h = passed_or t ts t.passes refl (sym h) (λ g. all_pass ts (sym g))

pub none_fails : (ts : List Test) → Passed ts → verdict ts ≡ Ok tt
unfolding verdict
none_fails [] h = refl
none_fails (t ∷ ts) h = ap (λ (y : Bool). cond y (verdict ts) (Err t.refusal)) h.0 ∙ none_fails ts h.1

fails_or : (t : Test) (ts : List Test) (x : Bool) (k : Refusal) → t.passes ≡ x → (verdict ts ≡ Err k → Fails ts k) → verdict (t ∷ ts) ≡ Err k
    → Fails (t ∷ ts) k
unfolding verdict
fails_or t ts true k e more h = inr (more (rw e at h))
fails_or t ts false k e more h =
    let z : ◌≡◌ {A = Verdict} (Err t.refusal) (Err k) = rw e at h in
    inl (cc, e)

pub it_fails : (ts : List Test) (k : Refusal) → verdict ts ≡ Err k → Fails ts k
unfolding verdict
it_fails [] k h = absurd (let z : ◌≡◌ {A = Verdict} (Ok tt) (Err k) = h in cc)
it_fails (t ∷ ts) k h = fails_or t ts t.passes k refl (it_fails ts k) h

no_lower : (ts : List Test) (j : ℕ) (k : Refusal) → Rising j ts → Fails ts k → j ≤ number k
no_lower [] j k a f = elim f [ ]
no_lower (t ∷ ts) j k a f = ⊎_elim (λ h. rw h.0 at a.0) (λ h. let l = no_lower ts (number t.refusal) k a.1 h in omega (arith, a.0)) f

lowest_or : (t : Test) (ts : List Test) (x : Bool) (k : Refusal) → t.passes ≡ x → Rising (number t.refusal) ts → (Fails ts k → told (verdict ts) ≤ number k)
    → Fails (t ∷ ts) k → told (verdict (t ∷ ts)) ≤ number k
unfolding verdict
lowest_or t ts true k e a more f = rw e (⊎_elim (λ h. absurd (let z : ◌≡◌ {A = Bool} true false = sym e ∙ h.1 in cc)) (λ h. more h) f)
lowest_or t ts false k e a more f = rw e (⊎_elim (λ h. let z = ap number h.0 in omega (arith, z)) (λ h. no_lower ts (number t.refusal) k a h) f)

-- LOWEST NUMBER FIRST
pub it_is_lowest : (j : ℕ) (ts : List Test) → Rising j ts → (k : Refusal) → Fails ts k → told (verdict ts) ≤ number k
it_is_lowest j [] o k f = elim f [ ]
it_is_lowest j (t ∷ ts) o k f = lowest_or t ts t.passes k refl o.1 (it_is_lowest (number t.refusal) ts o.1 k) f

-- ---- a list in two parts: the later tests count only where every earlier one passes

pub rising_front : (k : ℕ) (ts us : List Test) → Rising k (ts ++ us) → Rising k ts
rising_front k [] us o = tt
rising_front k (t ∷ ts) us o = (o.0, rising_front (number t.refusal) ts us o.1)

pub decides_early : (ts us : List Test) (k : Refusal) → verdict ts ≡ Err k → Err k ≡ verdict (ts ++ us)
unfolding verdict
decides_early [] us k h = absurd (let z : ◌≡◌ {A = Verdict} (Ok tt) (Err k) = h in cc)
decides_early (t ∷ ts) us k h = go t.passes refl (decides_early ts us k) h
  where
    go : (x : Bool) → t.passes ≡ x → (verdict ts ≡ Err k → Err k ≡ verdict (ts ++ us)) → verdict (t ∷ ts) ≡ Err k → Err k ≡ verdict (t ∷ (ts ++ us))
    go true e more h = rw e (more (rw e at h))
    go false e more h = rw e (sym (rw e at h))

pub decides_late : (ts us : List Test) → Ok tt ≡ verdict ts → verdict us ≡ verdict (ts ++ us)
unfolding verdict
decides_late ts us z = go ts (all_pass ts z)
  where
    go : (ts : List Test) → Passed ts → verdict us ≡ verdict (ts ++ us)
    go [] h = refl
    go (t ∷ ts) h = rw h.0 (go ts h.1)

pub verdict_under : (m : ℕ) (ts : List Test) → 0 < m → Under m ts → told (verdict ts) < m
unfolding verdict
verdict_under m [] p u = p
verdict_under m (t ∷ ts) p u = go t.passes refl (verdict_under m ts p u.1)
  where
    go : (x : Bool) → t.passes ≡ x → told (verdict ts) < m → told (verdict (t ∷ ts)) < m
    go true e l = rw e l
    go false e l = rw e u.0
