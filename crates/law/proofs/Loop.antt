-- What follows of specs/Loop.antt: its theorems, apart from the definitions.
use Rattle.std.specs.Prelude.{ℕ, zero, suc, ◌+◌, ◌-◌, ◌≤◌, ◌<◌, ◌≡◌, refl}
use Rattle.std.proofs.Common.{ap, sym, ◌∙◌, arith, zero-add, add-zero, le_refl, le_trans}
use Rattle.std.proofs.Math.Nat.{sub_self, sub-zero}
use Rattle.law.specs.Loop.{fold, over}

-- ---- the three facts of a loop

-- before the first turn
pub over_none : {S : Type 0} (f : ℕ → S → S) (a : ℕ) (s : S) → s ≡ over f a a s
unfolding fold over
over_none f a s = rw sub_self

-- one turn more
pub over_more : {S : Type 0} (f : ℕ → S → S) (a k : ℕ) (s : S) → a ≤ k → f k (over f a k s) ≡ over f a (k + 1) s
unfolding fold over
over_more f a k s h =
    let e : (k + 1) - a ≡ suc (k - a) = omega arith in
    let e' : a + (k - a) ≡ k = omega arith in
    rw e (rw e')

-- the same as a loop's proof has it: s is the state at the loop's head, t the state after the turn
pub over_turn : {S : Type 0} (f : ℕ → S → S) (a k : ℕ) (z s t : S) → a ≤ k → s ≡ over f a k z → t ≡ f k s → t ≡ over f a (k + 1) z
over_turn f a k z s t h e g = g ∙ (ap (f k) e ∙ over_more f a k z h)

-- the counter has come to the range's end
pub over_done : {S : Type 0} (f : ℕ → S → S) (a k b : ℕ) (z s : S) → s ≡ over f a k z → k ≤ b → b ≤ k → s ≡ over f a b z
over_done f a k b z s e h g = let same : k ≡ b = omega arith in e ∙ rw same

-- ---- a loop that is left early, or does nothing

-- once a turn has led to a state that no turn changes, the whole loop leads there
pub over_stays : {S : Type 0} (f : ℕ → S → S) (a k b : ℕ) (z t : S) → t ≡ over f a k z → ((j : ℕ) → f j t ≡ t) → a ≤ k → k ≤ b → t ≡ over f a b z
over_stays {S} f a k b z t e same h g =
    let q : k + (b - k) ≡ b = omega arith in
    rw q at (more (b - k))
  where
    more : (d : ℕ) → t ≡ over f a (k + d) z
    more zero = rw add-zero e
    more (suc d) =
        let q : (k + d) + 1 ≡ k + suc d = omega arith in
        rw q at (over_turn f a (k + d) z t t (omega arith) (more d) (sym (same (k + d))))

-- a loop with no turns
pub over_empty : {S : Type 0} (f : ℕ → S → S) (a b : ℕ) (s : S) → b ≤ a → over f a b s ≡ s
unfolding over fold
over_empty f a b s h = let e : b - a ≡ 0 = omega arith in rw e

-- ---- one loop beside another

fold_both : {S R : Type 0} (Q : S → R → Type 0) (f : ℕ → S → S) (g : ℕ → R → R) (a n : ℕ) (s : S) (r : R)
    → ((c : ℕ) (x : S) (y : R) → c < n → Q x y → Q (f (a + c) x) (g (a + c) y)) → Q s r → Q (fold f a n s) (fold g a n r)
unfolding fold
fold_both Q f g a zero s r step h = h
fold_both Q f g a (suc n) s r step h = step n (fold f a n s) (fold g a n r) (omega arith) (fold_both Q f g a n s r (λ c x y l. step c x y (omega arith)) h)

-- what each pair of turns keeps, the two loops keep
pub over_both : {S R : Type 0} (Q : S → R → Type 0) (f : ℕ → S → S) (g : ℕ → R → R) (a b : ℕ) (s : S) (r : R)
    → ((k : ℕ) (x : S) (y : R) → a ≤ k → k < b → Q x y → Q (f k x) (g k y)) → Q s r → Q (over f a b s) (over g a b r)
unfolding over
over_both Q f g a b s r step h = fold_both Q f g a (b - a) s r (λ c x y l. step (a + c) x y (omega arith) (omega arith)) h

-- what each turn of a..b keeps, the whole loop keeps
pub over_keeps : {S : Type 0} (P : S → Type 0) (f : ℕ → S → S) (a b : ℕ) (s : S) → ((k : ℕ) (t : S) → a ≤ k → k < b → P t → P (f k t)) → P s
    → P (over f a b s)
over_keeps P f a b s step h = over_both (λ x _. P x) f f a b s s (λ k x _ l m q. step k x l m q) h

-- two loops with the same turns
pub over_same : {S : Type 0} (f g : ℕ → S → S) (a b : ℕ) (s : S) → ((k : ℕ) (t : S) → a ≤ k → k < b → f k t ≡ g k t) → over f a b s ≡ over g a b s
over_same f g a b s h = over_both (λ x y. x ≡ y) f g a b s s (λ k x y l m e. h k x l m ∙ ap (g k) e) refl

fold_shift : {S : Type 0} (f g : ℕ → S → S) (a n : ℕ) (s : S) → ((c : ℕ) (t : S) → c < n → f c t ≡ g (a + c) t) → fold f 0 n s ≡ fold g a n s
unfolding fold
fold_shift f g a zero s h = refl
fold_shift f g a (suc n) s h =
    rw (zero-add n) (ap (f n) (fold_shift f g a n s (λ c t l. h c t (omega arith))) ∙ h n (fold g a n s) (omega arith))

-- a loop that counts from 0, and one that counts from a
pub over_shift : {S : Type 0} (f g : ℕ → S → S) (a b : ℕ) (s : S) → ((c : ℕ) (t : S) → c < b - a → f c t ≡ g (a + c) t) → over f 0 (b - a) s ≡ over g a b s
unfolding over
over_shift f g a b s h = rw sub-zero (fold_shift f g a (b - a) s h)

-- a loop in two parts
pub over_join : {S : Type 0} (f : ℕ → S → S) (a b c : ℕ) (s : S) → a ≤ b → b ≤ c → over f b c (over f a b s) ≡ over f a c s
over_join {S} f a b c s h g = let e : b + (c - b) ≡ c = omega arith in rw e at (join (c - b))
  where
    join : (d : ℕ) → over f b (b + d) (over f a b s) ≡ over f a (b + d) s
    join zero = rw add-zero (sym (over_none f b (over f a b s)))
    join (suc d) =
        let e : b + suc d ≡ (b + d) + 1 = omega arith in
        rw e (sym (over_more f b (b + d) (over f a b s) (omega arith)) ∙ ap (f (b + d)) (join d) ∙ over_more f a (b + d) s (omega arith))

-- ---- a range walked upwards

-- from a up, one number at a time
pub from : (P : ℕ → Type 0) (a : ℕ) → P a → ((k : ℕ) → a ≤ k → P k → P (k + 1)) → (b : ℕ) → a ≤ b → P b
from P a h step b l = let e : a + (b - a) ≡ b = omega arith in rw e at (up (b - a))
  where
    up : (k : ℕ) → P (a + k)
    up zero = rw add-zero h
    up (suc k) = let e : a + suc k ≡ (a + k) + 1 = omega arith in rw e (step (a + k) (omega arith) (up k))

-- what rises at each step below n is in order
pub rising : (f : ℕ → ℕ) (n : ℕ) → ((r : ℕ) → r < n → f r ≤ f (r + 1)) → (a b : ℕ) → a ≤ b → b ≤ n → f a ≤ f b
rising f n rise a b h g =
    from (λ k. k ≤ n → f a ≤ f k) a (λ _. le_refl (f a)) (λ k l ih m. le_trans (ih (omega arith)) (rise k (omega arith))) b h g

-- what rises strictly from each number of a..b to the next is strictly in order there
pub climbing : (f : ℕ → ℕ) (a b : ℕ) → ((k : ℕ) → a < k → k < b → f (k - 1) < f k) → (j k : ℕ) → a ≤ j → j < k → k < b → f j < f k
climbing f a b climb j k h l g =
    from (λ k. k < b → f j < f k) (j + 1) (λ m. step j h m) (λ i q ih m. let u = ih (omega arith) in let v = step i (omega arith) m in omega arith) k
    (omega arith) g
  where
    step : (i : ℕ) → a ≤ i → i + 1 < b → f i < f (i + 1)
    step i q m = let e : (i + 1) - 1 ≡ i = omega arith in rw e at (climb (i + 1) (omega arith) m)

-- what holds before the first turn, and passes from each turn's number to the next, holds at the end
pub over_holds : {S : Type 0} (P : ℕ → S → Type 0) (f : ℕ → S → S) (a b : ℕ) (s : S) → a ≤ b → P a s
    → ((k : ℕ) (t : S) → a ≤ k → k < b → P k t → P (k + 1) (f k t)) → P b (over f a b s)
over_holds P f a b s l h step =
    from (λ k. k ≤ b → P k (over f a k s)) a (λ _. rw (← over_none f a s) h)
    (λ k q ih g. rw (← over_more f a k s q) (step k (over f a k s) q (omega arith) (ih (omega arith)))) b l (omega arith)
