-- THE RULES OF THE TEXT (RULES.md § 9), each as a proposition: which numbers a text has, when it is as described, and when it is refused by 9.
use Prim.Native.Nat.{ℕ, ◌+◌, ◌*◌, ◌≤◌, ◌<◌}
use mathlib.Core.Path.{◌≡◌, refl, ap}
use mathlib.Core.Bool.{Bool, true, false, not}
use mathlib.Core.List.{List, [], ◌∷◌, ◌++◌, map-append}
use native.Mathlib.Omega.{arith}
use lib.ListN.{length, get_or}
use lib.Dec.{leb}
use borrow.Author.Tests.{leb-true, le-leb, eqb-true, eq-eqb, not-true}
use Rattle.law.specs.All.{all, all_at, all_of}
use Rattle.law.specs.Decimal.{value, value_from}
use Rattle.law.specs.Limit.{bytes as byteLimit}
use Rattle.std.specs.Prelude.{Err}
use Rattle.law.specs.declared.refusal.Refusal.TheVariants.{BadText}
use Rattle.law.specs.Refusal.{Under}
use Rattle.law.specs.Truth.{both, and_true}
use Rattle.bench_scan.specs.Numbers.{is_gap, allowed, before, pieces, filled, numbers, largest, small}
use Rattle.bench_text.specs.Text.{counted, described, pair_count}
use Rattle.bench_text.specs.Nine.{limits}
use Rattle.bench_text.proofs.Nine.{nine_is, nine_of}
use Rattle.bench_text.specs.Reading.{In, refusals, tests, verdict_of}

-- ---- a text's numbers: these three laws leave `numbers` no choice

-- no text, no number
none : numbers [] ≡ []
unfolding numbers pieces filled
none = refl

first_piece : (s : List ℕ) → (w : List ℕ) × ((ws : List (List ℕ)) × (pieces s ≡ w ∷ ws))
unfolding pieces before
first_piece [] = ([], ([], refl))
first_piece (b ∷ s) = at (is_gap b) refl (first_piece s)
  where
    at : (g : Bool) → is_gap b ≡ g → (w : List ℕ) × ((ws : List (List ℕ)) × (pieces s ≡ w ∷ ws)) → (w : List ℕ)
        × ((ws : List (List ℕ)) × (pieces (b ∷ s) ≡ w ∷ ws))
    at true e p = ([], (pieces s, rw e))
    at false e p = (b ∷ p.0, (p.1.0, rw (e, p.1.1)))

split_case : (c g : ℕ) (a b : List ℕ) (t : Bool) → is_gap c ≡ t → pieces (a ++ g ∷ b) ≡ pieces a ++ pieces b → pieces ((c ∷ a) ++ g ∷ b) ≡ pieces
    (c ∷ a) ++ pieces b
unfolding pieces before
split_case c g a b true e ih = rw (e, ih)
split_case c g a b false e ih = let p = first_piece a in rw (e, ih, p.1.1)

split : (a b : List ℕ) (g : ℕ) → is_gap g ≡ true → pieces (a ++ g ∷ b) ≡ pieces a ++ pieces b
unfolding pieces
split [] b g h = rw h
split (c ∷ a) b g h = split_case c g a b (is_gap c) refl (split a b g h)

filled_both : (p q : List (List ℕ)) → filled (p ++ q) ≡ filled p ++ filled q
unfolding filled
filled_both [] q = refl
filled_both ([] ∷ p) q = filled_both p q
filled_both ((b ∷ w) ∷ p) q = ap (λ (l : List (List ℕ)). (b ∷ w) ∷ l) (filled_both p q)

-- a separator parts a text in two. So runs of separators are allowed, and separators at either end
parted : (a b : List ℕ) (g : ℕ) → is_gap g ≡ true → numbers (a ++ g ∷ b) ≡ numbers a ++ numbers b
unfolding numbers
parted a b g h = rw (split a b g h, filled_both (pieces a) (pieces b)) (map-append value (filled (pieces a)) (filled (pieces b)))

no_gap : (w : List ℕ) → all (λ b. not (is_gap b)) w ≡ true → pieces w ≡ w ∷ []
unfolding pieces all before
no_gap [] h = refl
no_gap (b ∷ w) h = let p = both (not (is_gap b)) _ h in rw (not-true (is_gap b) p.0, no_gap w p.1)

-- what has no separator is one number
word : (b : ℕ) (w : List ℕ) → all (λ b. not (is_gap b)) (b ∷ w) ≡ true → numbers (b ∷ w) ≡ value (b ∷ w) ∷ []
unfolding numbers filled
word b w h = rw (no_gap (b ∷ w) h)

-- leading zeros are allowed
leading_zero : (w : List ℕ) → value (48 ∷ w) ≡ value w
unfolding value value_from
leading_zero w = refl

-- ---- a text as described

record Described (s : List ℕ) : Type 0 where
  bytes : length s ≤ byteLimit
  alphabet : (i : ℕ) → i < length s → allowed (get_or s i 0) ≡ true
  each : (i : ℕ) → i < length (numbers s) → get_or (numbers s) i 0 ≤ largest
  count : length (numbers s) ≡ 2 + 2 * pair_count s

counted_is : (vs : List ℕ) → counted vs ≡ true → length vs ≡ 2 + 2 * get_or vs 1 0
unfolding counted
counted_is [] h = absurd (let z : ◌≡◌ {A = ℕ} 0 1 = cc in omega arith)
counted_is (n ∷ []) h = absurd (let z : ◌≡◌ {A = ℕ} 0 1 = cc in omega arith)
counted_is (n ∷ p ∷ l) h = omega (arith, eqb-true (length l) (2 * p) h)

counted_of : (vs : List ℕ) → length vs ≡ 2 + 2 * get_or vs 1 0 → counted vs ≡ true
unfolding counted
counted_of [] h = absurd (omega arith)
counted_of (n ∷ []) h = absurd (omega arith)
counted_of (n ∷ p ∷ l) h = eq-eqb (length l) (2 * p) (omega arith)

-- the test passes exactly if the text is so
described_is : (s : List ℕ) → described s ≡ true → Described s
unfolding described small
described_is s h =
    let a = both (leb (length s) byteLimit) _ h in
    let b = both (all allowed s) _ a.1 in
    let c = both (all small (numbers s)) (counted (numbers s)) b.1 in
    record {
      bytes = leb-true _ _ a.0;
      alphabet = all_at allowed 0 s b.0;
      each = λ i l. leb-true _ _ (all_at small 0 (numbers s) c.0 i l);
      count = counted_is (numbers s) c.1;
    }

described_of : (s : List ℕ) → Described s → described s ≡ true
unfolding described small
described_of s d =
    and_true _ _ (le-leb _ _ d.bytes)
    (and_true _ _ (all_of allowed 0 s d.alphabet) (and_true _ _ (all_of small 0 (numbers s) (λ i l. le-leb _ _ (d.each i l)))
    (counted_of (numbers s) d.count)))

-- ---- 9, exactly if the text is not as described

no_test_is_nine : (i : In) → Under 9 (refusals i)
unfolding tests limits
no_test_is_nine i = (omega arith, (omega arith, (omega arith, tt)))

nine_exactly : (i : In) → (verdict_of i ≡ Err BadText → described i.text ≡ false) × (described i.text ≡ false → verdict_of i ≡ Err BadText)
nine_exactly i = (nine_is i.text (refusals i) (no_test_is_nine i), nine_of i.text (refusals i))
