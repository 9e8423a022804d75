-- THE TALLY OVER THE C ABI: seven counts, direct, Zero, Near, Converged, Curvature,
-- Limit and refused, in this order; and what a counted call promises over it.
use Rattle.std.specs.Prelude.{ℕ, ◌≡◌, List}
use Rattle.std.proofs.Common.{sym, ap, ◌∙◌}
use Rattle.law.specs.declared.refusal.Refusal.{Refusal}
use Rattle.law.specs.Promise.{Door, Promise, outcome, Counted}
use Rattle.law.specs.One.{One}
use Rattle.law.proofs.One.{comes_so}
use Rattle.step_tally.specs.declared.Tally.{Tally}
use Rattle.step_tally.specs.Count.{Asked, counted_of}
pub use Rattle.step_tally.specs.Count.{tally_of, counts_of}
use Rattle.abi_answers.specs.Numbers.{Told, told}

-- r, the lists and the places are those of the door's outcome, and the counts are what its tally rule makes of them and the outcome
pub record Tallied {I O A P : Type 0} (d : Door I O) (answer : O → A) (number : A → ℕ) (tells : A → P → P) (rule : Tally → O → Tally) (i : I) (r : ℕ)
    (left : A → O) (before after : P) (old counts : List ℕ) : Type 0 where
  pub told_is : Told d answer number tells i r left before after
  pub counts_are : counts ≡ counts_of (rule (tally_of old) (outcome d i))

-- from the door's own promise: a is its answer, and k what it is counted as
pub tallied : {I O A P : Type 0} (d : Door I O) (answer : O → A) (number : A → ℕ) (tells : A → P → P) (asks : A → Asked) (i : I) (r : ℕ)
    (left : A → O) (before after : P) (old counts : List ℕ) (a : A) (k : Asked)
    → Promise d i (left a) → answer (left a) ≡ a → r ≡ number a → after ≡ tells a before → counts ≡ counts_of (counted_of (tally_of old) k) → k ≡ asks a
    → Tallied d answer number tells (λ t o. counted_of t (asks (answer o))) i r left before after old counts
tallied d answer number tells asks i r left before after old counts a k e f g h c q =
    record {
      told_is = told d answer number tells i r left before after a e f g h;
      counts_are = c ∙ ap (λ (k : Asked). counts_of (counted_of (tally_of old) k)) (q ∙ ap asks (sym f ∙ ap answer e));
    }

-- SUCH A CALL COUNTS AS THE DOOR THAT LENDS THE RECORD DOES, so what `step_doors` says of any sequence of calls holds of these too
pub as_counted : {I O A P : Type 0} (d : Door I O) (answer : O → A) (number : A → ℕ) (tells : A → P → P) (rule : Tally → O → Tally) (i : I) (r : ℕ)
    (left : A → O) (before after : P) (old counts : List ℕ)
    → Tallied d answer number tells rule i r left before after old counts → Counted d rule i (tally_of old) (left (answer (outcome d i))) (tally_of counts)
as_counted d answer number tells rule i r left before after old counts t =
    let lists = t.told_is.numbers.lists_are in
    (lists, ap tally_of t.counts_are ∙ ap (rule (tally_of old)) (sym lists))

-- ONE OUTCOME w of such a promise: its number, its lists beside an answer, its places and its counts; `back` makes w of these
pub of_tallied : {I O A P W : Type 0} (d : Door I O) (answer : O → A) (number : A → ℕ) (tells : A → P → P) (rule : Tally → O → Tally) (i : I)
    (num : W → ℕ) (left : W → A → O) (before : P) (after : W → P) (old : List ℕ) (counts : W → List ℕ) (back : ℕ → O → P → List ℕ → W)
    → ((r : ℕ) (p : P) (c : List ℕ) → left (back r (d.work i) p c) (answer (d.work i)) ≡ d.work i)
    → ((k : Refusal) (r : ℕ) (p : P) (c : List ℕ) → left (back r (d.refuse k i) p c) (answer (d.refuse k i)) ≡ d.refuse k i)
    → ((r : ℕ) (o : O) (p : P) (c : List ℕ) → (num (back r o p c) ≡ r) × (after (back r o p c) ≡ p) × (counts (back r o p c) ≡ c))
    → ((w : W) (a : A) → back (num w) (left w a) (after w) (counts w) ≡ w)
    → One (λ (w : W). Tallied d answer number tells rule i (num w) (left w) before (after w) old (counts w))
of_tallied {I} {O} {A} {P} {W} d answer number tells rule i num left before after old counts back works refuses parts f =
    let o : O = outcome d i in
    let n : ℕ = number (answer o) in
    let p : P = tells (answer o) before in
    let c : List ℕ = counts_of (rule (tally_of old) o) in
    let lists : left (back n o p c) (answer o) ≡ o =
    comes_so d i (λ q. left (back n q p c) (answer q) ≡ q) (works n p c) (λ k. refuses k n p c) in (
      back n o p c,
      (
        record {
          told_is = record { numbers = record { number_is = (parts n o p c).0; lists_are = lists }; places_are = (parts n o p c).1 };
          counts_are = (parts n o p c).2;
        },
        λ w h. let t = h.told_is in
            sym (f w (answer o)) ∙ ap (λ r. back r (left w (answer o)) (after w) (counts w)) t.numbers.number_is
            ∙ ap (λ q. back n q (after w) (counts w)) t.numbers.lists_are ∙ ap (λ q. back n o q (counts w)) t.places_are
            ∙ ap (back n o p) h.counts_are,
      ),
    )
