-- WHAT A PASS COMES TO: the text's numbers, as the language has them.
use Rattle.std.specs.Prelude.{ℕ, suc, ◌+◌, ◌-◌, ◌*◌, ◌≤◌, ◌≡◌, refl, Bool, cond, ◌&&◌, length, leb}
use Rattle.std.proofs.Common.{ap, sym, arith, zero-add, add-zero, le_refl, le-leb, leb-false}
use Rattle.std.proofs.Math.Bool.{true, false}
use mathlib.Core.List.{List, [], ◌∷◌, map}
use Rattle.std.proofs.lemmas.Bool.{lt-leb}
use Rattle.law.specs.Along.{along}
use Rattle.law.proofs.Along.{over_list}
use Rattle.law.specs.All.{all}
use Rattle.law.specs.Decimal.{value_from, value}
use Rattle.bench_scan.specs.Numbers.{is_gap, is_digit, allowed, before, pieces, filled, numbers, largest, small, digit_at}
use Rattle.bench_scan.specs.Scan.{State, step_to, from_gap, from_word, kept, place_to, room_to, state_to, scan_to}
use Rattle.std.specs.Prelude.{None, Some}
use Rattle.bench_scan.specs.declared.inner.Stand.TheVariants.{Gap, Word}

-- the numbers of pieces, the first of which goes on with v
unfoldable continued : ℕ → List (List ℕ) → List ℕ
continued v [] = v ∷ []
continued v (w ∷ ws) = value_from v w ∷ map value (filled ws)

-- the numbers from number k on, stored
unfoldable pub place_all : ℕ → ℕ → List ℕ → List ℕ → List ℕ
place_all from k [] room = room
place_all from k (v ∷ vs) room = place_all from (k + 1) vs (place_to from k v room)

-- a pass with k numbers, to which vs are added if all is fine
pub record Right (from k : ℕ) (fine : Bool) (vs room : List ℕ) (end : State) : Type 0 where
  pub count : end.0 ≡ cond fine (Some (Gap (k + length vs))) None
  pub stored : fine ≡ true → end.1 ≡ place_all from k vs room

abbrev GapRight : ℕ → List ℕ → Type 0
GapRight from s =
    (k : ℕ) (room : List ℕ) → Right from k (all allowed s && all small (numbers s)) (numbers s) room (state_to from 32 (along (state_to from) (Some (Gap k), room) s))

abbrev WordRight : ℕ → List ℕ → Type 0
WordRight from s =
    (k v : ℕ) (room : List ℕ) → small v ≡ true
    → Right from k (all allowed s && all small (continued v (pieces s))) (continued v (pieces s)) room
    (state_to from 32 (along (state_to from) (Some (Word k v), room) s))

begun : (b : ℕ) (ps : List (List ℕ)) → map value (filled (before b ps)) ≡ continued (b - 48) ps
unfolding before filled continued value value_from
begun b [] = rw zero-add
begun b (w ∷ ws) = rw zero-add

gone_on : (v b : ℕ) (ps : List (List ℕ)) → continued v (before b ps) ≡ continued (v * 10 + (b - 48)) ps
unfolding before continued value_from filled
gone_on v b [] = refl
gone_on v b (w ∷ ws) = refl

grows : (v : ℕ) (w : List ℕ) → v ≤ value_from v w
unfolding value_from
grows v [] = le_refl v
grows v (b ∷ w) = omega (arith, grows (v * 10 + (b - 48)) w)

and_no : (a b : Bool) → b ≡ false → (a && b) ≡ false
and_no true b h = h
and_no false b h = refl

no_and : (a b : Bool) → a ≡ false → (a && b) ≡ false
no_and a b h = rw h

-- more digits make no number smaller
too_big : (v : ℕ) (ps : List (List ℕ)) → small v ≡ false → all small (continued v ps) ≡ false
unfolding small all continued
too_big v [] h = rw h
too_big v (w ∷ ws) h = no_and (leb (value_from v w) largest) _ (lt-leb (value_from v w) largest (omega (arith, leb-false v largest h, grows v w)))

bad_stays : (from : ℕ) (room s : List ℕ) → along (state_to from) (None, room) s ≡ (None, room)
unfolding along state_to step_to room_to
bad_stays from room [] = refl
bad_stays from room (b ∷ s) = bad_stays from room s

-- a pass that is bad is right where not all is fine
bad_right : (from k : ℕ) (fine : Bool) (vs room r s : List ℕ) (st : State) → st ≡ (None, r) → fine ≡ false
    → Right from k fine vs room (state_to from 32 (along (state_to from) st s))
unfolding state_to step_to room_to
bad_right from k fine vs room r s st e h =
    rw (h, e, bad_stays from r s) (record { count = refl; stored = λ no. absurd (let z : ◌≡◌ {A = ℕ} 0 1 = cc in omega arith) })

-- the same of a text's rest, by the step that its first byte makes
moved : (from k : ℕ) (s room : List ℕ) (st to : State) (f g : Bool) (vs ws : List ℕ) → st ≡ to → f ≡ g → vs ≡ ws
    → Right from k g ws room (state_to from 32 (along (state_to from) to s)) → Right from k f vs room (state_to from 32 (along (state_to from) st s))
moved from k s room st to f g vs ws p q r h = rw (p, q, r) h

digit_small : (b : ℕ) → is_digit b ≡ true → small (b - 48) ≡ true
unfolding small
digit_small b q = le-leb (b - 48) largest (omega (arith, digit_at b q))

one_more : (from k v : ℕ) (f : Bool) (vs room : List ℕ) (end : State) → Right from (k + 1) f vs (place_to from k v room) end → Right from k f (v ∷ vs) room end
unfolding place_all
one_more from k v f vs room end r =
    let e : k + 1 + length vs ≡ k + suc (length vs) = omega arith in
    record { count = rw e at r.count; stored = r.stored }

module _ (from b : ℕ) (t : List ℕ) (gap-t : GapRight from t) (word-t : WordRight from t) where
  gap_more : (x y : Bool) → is_gap b ≡ x → is_digit b ≡ y → GapRight from (b ∷ t)
  unfolding along state_to step_to room_to from_gap all allowed numbers pieces filled
  gap_more true y p q k room = moved from k t room (state_to from b (Some (Gap k), room)) _ _ _ _ _ (rw p) (rw p) (rw p) (gap-t k room)
  gap_more false true p q k room =
      let e : map value (filled (cond (is_gap b) ([] ∷ pieces t) (before b (pieces t)))) ≡ continued (b - 48) (pieces t) = rw p (begun b (pieces t)) in
      moved from k t room (state_to from b (Some (Gap k), room)) _ _ _ _ _ (rw (p, q)) (rw e (rw (p, q))) e (word-t k (b - 48) room (digit_small b q))
  gap_more false false p q k room = bad_right from k _ _ room room t _ (rw (p, q)) (rw (p, q))

  word_kept : (z : Bool) (k v : ℕ) (room : List ℕ) → small v ≡ z
      → Right from k (all allowed t && all small (continued v (pieces t))) (continued v (pieces t)) room
      (state_to from 32 (along (state_to from) (kept k v, room) t))
  unfolding kept
  word_kept true k v room h = rw h (word-t k v room h)
  word_kept false k v room h = bad_right from k _ _ room room t _ (rw h) (and_no (all allowed t) _ (too_big v (pieces t) h))

  word_more : (x y : Bool) → is_gap b ≡ x → is_digit b ≡ y → WordRight from (b ∷ t)
  unfolding along state_to step_to room_to from_word all allowed numbers pieces continued value_from place_all
  word_more true y p q k v room h =
      let e : continued v (cond (is_gap b) ([] ∷ pieces t) (before b (pieces t))) ≡ v ∷ numbers t = rw p in
      moved from k t room (state_to from b (Some (Word k v), room)) (Some (Gap (k + 1)), place_to from k v room) _ (all allowed t && all small (numbers t)) _ _ (rw p)
      (rw e (rw (p, h))) e
      (one_more from k v _ _ room _ (gap-t (k + 1) (place_to from k v room)))
  word_more false true p q k v room h =
      let e : continued v (cond (is_gap b) ([] ∷ pieces t) (before b (pieces t))) ≡ continued (v * 10 + (b - 48)) (pieces t) = rw p (gone_on v b (pieces t)) in
      moved from k t room (state_to from b (Some (Word k v), room)) _ _ _ _ _ (rw (p, q)) (rw e (rw (p, q))) e (word_kept _ k (v * 10 + (b - 48)) room refl)
  word_more false false p q k v room h = bad_right from k _ _ room room t _ (rw (p, q)) (rw (p, q))

right : (from : ℕ) (s : List ℕ) → GapRight from s × WordRight from s
unfolding along state_to step_to room_to from_gap from_word is_gap is_digit all allowed numbers pieces filled continued value_from place_all
right from [] = (
  (λ k room. record { count = ap (λ (j : ℕ). Some (Gap j)) (sym (add-zero k)); stored = λ h. refl }),
  (λ k v room h. rw h (record { count = refl; stored = λ h. refl })),
)
right from (b ∷ t) =
    let ih = right from t in
    (gap_more from b t ih.0 ih.1 _ _ refl refl, word_more from b t ih.0 ih.1 _ _ refl refl)

-- the pass over a whole text
pub scan_right : (from : ℕ) (s room : List ℕ) → Right from 0 (all allowed s && all small (numbers s)) (numbers s) room (scan_to from s room)
unfolding scan_to
scan_right from s room = rw (over_list (state_to from) 0 s (Some (Gap 0), room)) ((right from s).0 0 room)
