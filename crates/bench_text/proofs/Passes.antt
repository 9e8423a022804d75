-- THE TWO PASSES: what the first one says of the text, and what the second one stores.
use Prim.Native.Nat.{ℕ, suc, ◌+◌, ◌-◌, ◌*◌, ◌≤◌, ◌<◌}
use mathlib.Core.Path.{◌≡◌, refl, ap, sym, ◌∙◌}
use mathlib.Core.Bool.{Bool, true, false, cond, ◌&&◌}
use mathlib.Core.List.{List, [], ◌∷◌, ◌++◌}
use native.Mathlib.Omega.{arith}
use lib.ListN.{length, get_or, set, take, drop}
use lib.Seq.{set_out, length-take-le}
use lib.Dec.{leb, eqb}
use borrow.Author.Tests.{le-leb, lt-leb, leb-true, eqb-true, eqb-false, eq-eqb, ne_eqb}
use Rattle.law.specs.All.{all}
use Rattle.law.specs.Limit.{bytes as byteLimit}
use Rattle.law.specs.Refusal.{Verdict, verdict}
use Rattle.law.proofs.Refusals.{all_pass}
use Rattle.law.specs.Store.{written, written_whole}
use Rattle.law.specs.Truth.{both}
use Rattle.bench_scan.specs.Numbers.{allowed, numbers, small}
use Rattle.std.specs.Prelude.{Option, None, Some, Ok}
use Rattle.bench_scan.specs.Scan.{Scan, State, place_to, scan_to}
use Rattle.bench_scan.specs.Scanning.{place_all, scan_right}
use Rattle.bench_scan.specs.declared.inner.Stand.TheVariants.{Gap, Word}
use Rattle.bench_text.specs.Text.{counted, described, particle_count, pair_count, pair_numbers, Known}
use Rattle.bench_text.specs.Head.{counts_of, head_of, counted_of}
use Rattle.bench_text.specs.Nine.{limits}
use Rattle.bench_text.specs.Reading.{tests, given, left, work}
use Rattle.bench_text.proofs.Reading.{pair_numbers_lem}
use Rattle.bench_text.specs.declared.inner.Counts.{Counts}

-- ---- the first pass, into a room of two

-- the answer by where the pass stands at its end
abbrev pub head_from : Scan → List ℕ → Option Counts
head_from None z = None
head_from (Some (Word k v)) z = None
head_from (Some (Gap k)) z = counted_of k (get_or z 0 0) (get_or z 1 0)

-- past the room nothing is stored
placed_out : (from k : ℕ) (vs room : List ℕ) → from + length room ≤ k → place_all from k vs room ≡ room
unfolding place_all place_to
placed_out from k [] room h = refl
placed_out from k (v ∷ vs) room h =
    rw (le-leb from k (omega arith), set_out room (k - from) v (omega arith)) (placed_out from (k + 1) vs room (omega arith))

two_more : (x y : ℕ) (t : Bool) → eqb x y ≡ t → eqb (0 + suc (suc x)) (2 + y) ≡ t
two_more x y true e = eq-eqb (0 + suc (suc x)) (2 + y) (omega (arith, eqb-true x y e))
two_more x y false e = ne_eqb (0 + suc (suc x)) (2 + y) (λ q. eqb-false x y e (omega arith))

head_case : (a b : Bool) (vs z : List ℕ) (t : Scan) → t ≡ cond (a && b) (Some (Gap (0 + length vs))) None → ((a && b) ≡ true → z ≡ place_all 0 0 vs (0 ∷ 0 ∷ []))
    → head_from t z ≡ cond (a && (b && counted vs)) (Some (counts_of (get_or vs 0 0) (get_or vs 1 0))) None
unfolding counted counted_of place_all place_to
head_case false b vs z t e h = rw e
head_case true false vs z t e h = rw e
head_case true true [] z t e h = rw (e, h refl)
head_case true true (n ∷ []) z t e h = rw (e, h refl)
head_case true true (n ∷ p ∷ l) z t e h =
    let same : z ≡ n ∷ p ∷ [] = h refl ∙ placed_out 0 2 l (n ∷ p ∷ []) (omega arith) in
    rw (e, same, two_more (length l) (2 * p) _ refl)

pub head_said : (s z : List ℕ) (t : Scan) → ◌≡◌ {A = State} (t, z) (scan_to 0 s (0 ∷ 0 ∷ [])) → length s ≤ byteLimit → head_from t z ≡ head_of s
unfolding head_of described
head_said s z t e h =
    let r = scan_right 0 s (0 ∷ 0 ∷ []) in
    rw (le-leb (length s) byteLimit h)
    (head_case (all allowed s) (all small (numbers s)) (numbers s) z t (ap (λ (st : State). st.0) e ∙ r.count) (λ f. ap (λ (st : State). st.1) e
    ∙ r.stored f))

pub head_long : (s : List ℕ) → byteLimit < length s → None ≡ head_of s
unfolding head_of described
head_long s h = rw (lt-leb (length s) byteLimit h)

-- ---- what its answer means

known_case : (d : Bool) (c x : Counts) → Some c ≡ cond d (Some x) None → (d ≡ true) × (c ≡ x)
known_case true c x e = (refl, cc)
known_case false c x e = absurd (let z = e in cc)

pub head_known : (s : List ℕ) (c : Counts) → Some c ≡ head_of s → Known s c.n c.pairs
unfolding head_of
head_known s c e =
    let k = known_case (described s) c _ e in
    record { right = k.0; first = ap (λ (x : Counts). x.n) k.1; second = ap (λ (x : Counts). x.pairs) k.1 }

none_case : (d : Bool) (x : Counts) → None ≡ cond d (Some x) None → d ≡ false
none_case true x e = absurd (let z = e in cc)
none_case false x e = refl

pub head_none : (s : List ℕ) → None ≡ head_of s → described s ≡ false
unfolding head_of
head_none s e = none_case (described s) _ e

-- ---- the second pass, into a room for the pairs

placed_written : (from j : ℕ) (vs room : List ℕ) → place_all from (from + j) vs room ≡ written room j vs
unfolding place_all place_to written
placed_written from j [] room = refl
placed_written from j (v ∷ vs) room =
    let e : from + j + 1 ≡ from + suc j = omega arith in
    let g : from + j - from ≡ j = omega arith in
    rw (le-leb from (from + j) (omega arith), g, e) (placed_written from (suc j) vs (set room j v))

pairs_placed : (vs room : List ℕ) → counted vs ≡ true → length (drop 2 vs) ≡ length room → place_all 2 0 vs room ≡ drop 2 vs
unfolding counted place_all place_to
pairs_placed [] room c h = absurd (let z : ◌≡◌ {A = ℕ} 0 1 = cc in omega arith)
pairs_placed (n ∷ []) room c h = absurd (let z : ◌≡◌ {A = ℕ} 0 1 = cc in omega arith)
pairs_placed (n ∷ p ∷ l) room c h = placed_written 2 0 l room ∙ written_whole room l h

counts_same : (c : Counts) (n p : ℕ) → c.n ≡ n → c.pairs ≡ p → c ≡ counts_of n p
counts_same c n p h g = rw (← h, ← g)

module _ (s : List ℕ) (c : Counts) (k : Known s c.n c.pairs) where
  pub short : length s ≤ byteLimit
  unfolding described
  short = leb-true (length s) byteLimit (both (leb (length s) byteLimit) _ k.right).0

  pub its_tests : (m : ℕ) (r : Verdict) → r ≡ verdict (tests c.n c.pairs m) → r ≡ verdict (tests (particle_count s) (pair_count s) m)
  its_tests m r e = rw (k.first, k.second) at e

  pub worked : (room z : List ℕ) (t : Scan) → 2 * c.pairs ≤ length room → ◌≡◌ {A = State} (t, z) (scan_to 2 s (take (2 * c.pairs) room))
      → left (Ok c) (z ++ drop (2 * c.pairs) room) ≡ work (given s room)
  unfolding described work
  worked room z t h st =
      let d1 = both (leb (length s) byteLimit) _ k.right in
      let d2 = both (all allowed s) _ d1.1 in
      let d3 = both (all small (numbers s)) (counted (numbers s)) d2.1 in
      let fine : (all allowed s && all small (numbers s)) ≡ true = rw (d2.0, d3.0) in
      let long : length (pair_numbers s) ≡ length (take (2 * c.pairs) room) = pair_numbers_lem s k.right ∙ ap (λ (x : ℕ). 2 * x) (sym k.second)
      ∙ sym (length-take-le (2 * c.pairs) room h) in
      let stored : z ≡ pair_numbers s =
      ap (λ (x : State). x.1) st ∙ ((scan_right 2 s (take (2 * c.pairs) room)).stored fine ∙ pairs_placed (numbers s) (take (2 * c.pairs) room) d3.1 long) in
      rw (stored, k.second, counts_same c _ _ k.first k.second)

pub enough_room : (n p m : ℕ) → Ok tt ≡ verdict (tests n p m) → 2 * p ≤ m
unfolding tests limits
enough_room n p m h = leb-true _ _ (all_pass (tests n p m) h).1.1.0
