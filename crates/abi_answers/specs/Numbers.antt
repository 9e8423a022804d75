-- ANSWERS AS NUMBERS: over the C ABI a call answers its refusal's number, and 0 for acceptance; its lists are left as its own promise says.
use Rattle.std.specs.Prelude.{ℕ, ◌≡◌, refl, Result, Ok, Err}
use Rattle.std.proofs.Common.{sym, ap, ◌∙◌, subst}
use Rattle.law.specs.Promise.{Door, Promise, outcome}
use Rattle.law.specs.Said.{refusal_of}
use Rattle.law.specs.One.{One}
use Rattle.law.proofs.One.{comes_so}
use Rattle.law.specs.declared.refusal.Refusal.{Refusal}
use Rattle.law.specs.Number.{number}
use Rattle.law.specs.Refusal.{Verdict}
use Rattle.matrix_building.specs.Said.{built_said}
use Rattle.matrix_doors.specs.Said.{ran_said, found_said}
use Rattle.plan_doors.specs.Said.{planned_said}
use Rattle.abi_answers.specs.Telling.{whole_by}

-- the number of an answer, whichever call's: its refusal's own, and 0 for acceptance
abbrev pub answered : {A : Type 0} → Result A Refusal → ℕ
answered (Ok _) = 0
answered (Err k) = number k

-- it is what the answer says
pub built_number : (a : Result ℕ Refusal) → answered a ≡ refusal_of (built_said a)
built_number (Ok blocks) = refl
built_number (Err k) = refl

pub ran_number : (a : Verdict) → answered a ≡ refusal_of (ran_said a)
ran_number (Ok _) = refl
ran_number (Err k) = refl

pub found_number : (a : Result ℕ Refusal) → answered a ≡ refusal_of (found_said a)
found_number (Ok slot) = refl
found_number (Err k) = refl

pub planned_number : (a : Result ℕ Refusal) → answered a ≡ refusal_of (planned_said a)
planned_number (Ok len) = refl
planned_number (Err k) = refl

-- what a lent place for the slot then holds: the slot, or what it held
abbrev pub found_slot : Result ℕ Refusal → ℕ → ℕ
found_slot a old = whole_by (found_said a) old

-- r is the number of the answer that the door comes to, and the lists are those that it leaves: with that answer they make up the outcome
pub record Numbered {I O A : Type 0} (d : Door I O) (answer : O → A) (number : A → ℕ) (i : I) (r : ℕ) (left : A → O) : Type 0 where
  pub number_is : r ≡ number (answer (outcome d i))
  pub lists_are : left (answer (outcome d i)) ≡ outcome d i

-- from the door's own promise: a is its answer
pub numbered : {I O A : Type 0} (d : Door I O) (answer : O → A) (number : A → ℕ) (i : I) (r : ℕ) (left : A → O) (a : A)
    → Promise d i (left a) → answer (left a) ≡ a → r ≡ number a → Numbered d answer number i r left
numbered {I} {O} {A} d answer number i r left a e f g =
    let same : a ≡ answer (outcome d i) = sym f ∙ ap answer e in
    record { number_is = g ∙ ap number same; lists_are = subst (λ (b : A). left b ≡ outcome d i) same e }

-- the same of a call that tells its answer in lent places: they hold what the answer makes of what they held
pub record Told {I O A P : Type 0} (d : Door I O) (answer : O → A) (number : A → ℕ) (tells : A → P → P) (i : I) (r : ℕ) (left : A → O)
    (before after : P) : Type 0 where
  pub numbers : Numbered d answer number i r left
  pub places_are : after ≡ tells (answer (outcome d i)) before

pub told : {I O A P : Type 0} (d : Door I O) (answer : O → A) (number : A → ℕ) (tells : A → P → P) (i : I) (r : ℕ) (left : A → O) (before after : P) (a : A)
    → Promise d i (left a) → answer (left a) ≡ a → r ≡ number a → after ≡ tells a before → Told d answer number tells i r left before after
told {I} {O} {A} d answer number tells i r left before after a e f g h =
    record { numbers = numbered d answer number i r left a e f g; places_are = h ∙ ap (λ (b : A). tells b before) (sym f ∙ ap answer e) }

-- ONE OUTCOME w of such a promise: `num` is the number that w answers, `left` its lists beside an answer, and `back` makes w of both
module _ {I O A W : Type 0} (d : Door I O) (answer : O → A) (number : A → ℕ) (i : I) (num : W → ℕ) (left : W → A → O) where
  pub of_numbered : (back : ℕ → O → W) → ((r : ℕ) → left (back r (d.work i)) (answer (d.work i)) ≡ d.work i)
      → ((k : Refusal) (r : ℕ) → left (back r (d.refuse k i)) (answer (d.refuse k i)) ≡ d.refuse k i) → ((r : ℕ) (o : O) → num (back r o) ≡ r)
      → ((w : W) (a : A) → back (num w) (left w a) ≡ w) → One (λ (w : W). Numbered d answer number i (num w) (left w))
  of_numbered back works refuses nums f =
      let o : O = outcome d i in
      let n : ℕ = number (answer o) in (
        back n o,
        (
          record { number_is = nums n o; lists_are = comes_so d i (λ q. left (back n q) (answer q) ≡ q) (works n) (λ k. refuses k n) },
          λ w h. sym (f w (answer o)) ∙ ap (λ r. back r (left w (answer o))) h.number_is ∙ ap (back n) h.lists_are,
        ),
      )

  -- and `after` the places, that held p
  pub of_told : {P : Type 0} (tells : A → P → P) (before : P) (after : W → P) (back : ℕ → O → P → W)
      → ((r : ℕ) (p : P) → left (back r (d.work i) p) (answer (d.work i)) ≡ d.work i)
      → ((k : Refusal) (r : ℕ) (p : P) → left (back r (d.refuse k i) p) (answer (d.refuse k i)) ≡ d.refuse k i)
      → ((r : ℕ) (o : O) (p : P) → (num (back r o p) ≡ r) × (after (back r o p) ≡ p))
      → ((w : W) (a : A) → back (num w) (left w a) (after w) ≡ w) → One (λ (w : W). Told d answer number tells i (num w) (left w) before (after w))
  of_told {P} tells before after back works refuses parts f =
      let o : O = outcome d i in
      let n : ℕ = number (answer o) in
      let p : P = tells (answer o) before in
      let lists : left (back n o p) (answer o) ≡ o =
      comes_so d i (λ q. left (back n q p) (answer q) ≡ q) (works n p) (λ k. refuses k n p) in (
        back n o p,
        (
          record { numbers = record { number_is = (parts n o p).0; lists_are = lists }; places_are = (parts n o p).1 },
          λ w h. sym (f w (answer o)) ∙ ap (λ r. back r (left w (answer o)) (after w)) h.numbers.number_is
              ∙ ap (λ q. back n q (after w)) h.numbers.lists_are ∙ ap (back n o) h.places_are,
        ),
      )
