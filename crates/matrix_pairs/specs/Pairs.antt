-- THE BLOCKS THAT GIVEN PAIRS STORE (rules, module 2): each row's diagonal, and a pair's two numbers in either order. So repeats and
-- equal pairs add nothing, whatever their numbers. The pattern of them is well formed and has at most n + 2 * count blocks.
use Prim.Native.Nat.{ℕ, ◌+◌, ◌*◌, ◌≤◌, ◌<◌}
use Rattle.std.specs.Prelude.{◌≡◌, refl, true, false, ◌&&◌, ◌||◌, List, ◌++◌, ◌⊎◌, length, get_or, ltb}
use Rattle.std.proofs.Math.Path.{ap, sym}
use Rattle.std.proofs.Common.{◌∙◌, arith, eq-eqb, ne_eqb, eqb-true, ltb-true}
use Rattle.std.proofs.Math.Bool.{Bool, or_comm, or_assoc}
use Rattle.std.proofs.Math.Logic.{inl, inr, ⊎_elim}
use Rattle.std.proofs.Math.Dec.{eqb}
use Rattle.law.proofs.Loop.{from}
use Rattle.law.specs.Truth.{both, and_true, either, or_left, or_right}
use Rattle.law.specs.Every.{every, some}
use Rattle.law.proofs.Every.{every_at, some_at, some_of, some_none, some_more}
use Rattle.law.specs.Gather.{up_to}
use Rattle.law.proofs.Gather.{up_to_none, up_to_more, up_to_sum, single}
use Rattle.law.specs.Keep.{only_if, at_most_one, rank}
use Rattle.matrix_shape.specs.Formed.{WellFormed}
use Rattle.matrix_shape.specs.Rows.{at}
use Rattle.matrix_shape.specs.Made.{row_of, cols_of, start_of, starts_of, slots_of, length_row, start_none, start_more, begins, well_formed}

-- the two numbers of pair i
abbrev pub left : List ℕ → ℕ → ℕ
left pairs i = get_or pairs (2 * i) 0

abbrev pub right : List ℕ → ℕ → ℕ
right pairs i = get_or pairs (2 * i + 1) 0

-- the pair a, b is no ground for refusal 4
abbrev pub pair_ok : ℕ → ℕ → ℕ → Bool
pair_ok n a b = eqb a b || (ltb a n && ltb b n)

abbrev pub pair_ok_at : ℕ → List ℕ → ℕ → Bool
pair_ok_at n pairs i = pair_ok n (left pairs i) (right pairs i)

-- the pair a, b joins r and c, in either order
abbrev pub joins : ℕ → ℕ → ℕ → ℕ → Bool
joins a b r c = (eqb a r && eqb b c) || (eqb a c && eqb b r)

-- one of the first count pairs joins r and c
unfoldable pub joined : List ℕ → ℕ → ℕ → ℕ → Bool
joined pairs count r c = some (λ i. joins (left pairs i) (right pairs i) r c) 0 count

-- block (r,c) is stored
unfoldable pub stored_by : List ℕ → ℕ → ℕ → ℕ → Bool
stored_by pairs count r c = eqb r c || joined pairs count r c

module _ (pairs : List ℕ) (count : ℕ) where
  pub own : (r : ℕ) → stored_by pairs count r r ≡ true
  unfolding stored_by
  own r = or_left (eqb r r) _ (eq-eqb r r refl)

  pub twin_joined : (r c : ℕ) → joined pairs count r c ≡ true → joined pairs count c r ≡ true
  unfolding joined
  twin_joined r c h =
      let q = some_at (λ i. joins (left pairs i) (right pairs i) r c) 0 count h in
      let i = q.0 in
      some_of (λ i. joins (left pairs i) (right pairs i) c r) 0 count i q.1.0 q.1.1.0
      (or_comm (eqb (left pairs i) c && eqb (right pairs i) r) (eqb (left pairs i) r && eqb (right pairs i) c) ∙ q.1.1.1)

  pub twin : (r c : ℕ) → stored_by pairs count r c ≡ true → stored_by pairs count c r ≡ true
  unfolding stored_by
  twin r c h =
      ⊎_elim (λ e. or_left (eqb c r) _ (eq-eqb c r (sym (eqb-true r c e)))) (λ j. or_right (eqb c r) _ (twin_joined r c j))
      (either (eqb r c) (joined pairs count r c) h)

  -- WHAT IS BUILT IS WELL FORMED, with any rest behind it
  pub built_formed : (n : ℕ) (s c d : List ℕ)
      → WellFormed n (start_of n (stored_by pairs count) n) (at (starts_of n (stored_by pairs count) ++ s)) (at (cols_of n (stored_by pairs count) ++ c))
      (at (slots_of n (stored_by pairs count) ++ d))
  built_formed n s c d = well_formed n (stored_by pairs count) _ _ _ (begins n (stored_by pairs count) s c d) (λ r l. own r) twin

-- ---- the same as the rules have it

-- r and c are one particle, or one of the first count pairs joins them, in either order
abbrev pub Together : List ℕ → ℕ → ℕ → ℕ → Type 0
Together pairs count r c = (r ≡ c) ⊎ ((i : ℕ) × ((i < count) × (((left pairs i ≡ r) × (right pairs i ≡ c)) ⊎ ((left pairs i ≡ c) × (right pairs i ≡ r)))))

joins_is : (a b r c : ℕ) → joins a b r c ≡ true → ((a ≡ r) × (b ≡ c)) ⊎ ((a ≡ c) × (b ≡ r))
joins_is a b r c h =
    ⊎_elim (λ t. let u = both (eqb a r) (eqb b c) t in inl (eqb-true a r u.0, eqb-true b c u.1)) (λ t. let u = both (eqb a c) (eqb b r) t in inr
    (eqb-true a c u.0, eqb-true b r u.1))
    (either (eqb a r && eqb b c) (eqb a c && eqb b r) h)

joins_of : (a b r c : ℕ) → ((a ≡ r) × (b ≡ c)) ⊎ ((a ≡ c) × (b ≡ r)) → joins a b r c ≡ true
joins_of a b r c h =
    ⊎_elim (λ t. or_left (eqb a r && eqb b c) _ (and_true _ _ (eq-eqb a r t.0) (eq-eqb b c t.1)))
    (λ t. or_right (eqb a r && eqb b c) _ (and_true _ _ (eq-eqb a c t.0) (eq-eqb b r t.1))) h

module _ (pairs : List ℕ) (count r c : ℕ) where
  pub together_is : stored_by pairs count r c ≡ true → Together pairs count r c
  unfolding stored_by joined
  together_is h =
      ⊎_elim (λ e. inl (eqb-true r c e))
      (λ j.
      let q = some_at (λ i. joins (left pairs i) (right pairs i) r c) 0 count j in
      inr (q.0, (q.1.1.0, joins_is (left pairs q.0) (right pairs q.0) r c q.1.1.1)))
      (either (eqb r c) (joined pairs count r c) h)

  pub together_of : Together pairs count r c → stored_by pairs count r c ≡ true
  unfolding stored_by joined
  together_of h =
      ⊎_elim (λ e. or_left (eqb r c) _ (eq-eqb r c e))
      (λ j. or_right (eqb r c) _ (some_of (λ i. joins (left pairs i) (right pairs i) r c) 0 count j.0 (omega arith) j.1.0
      (joins_of (left pairs j.0) (right pairs j.0) r c j.1.1))) h

  -- pairs that are no ground for refusal 4 join particles with particles
  pub together_below : (n : ℕ) → every (pair_ok_at n pairs) 0 count ≡ true → r < n → Together pairs count r c → c < n
  together_below n ok l h =
      ⊎_elim (λ e. omega arith)
      (λ j.
      let a = left pairs j.0 in
      let b = right pairs j.0 in
      ⊎_elim (λ e. let same = eqb-true a b e in ⊎_elim (λ t. omega (arith, t.0, t.1)) (λ t. omega (arith, t.0, t.1)) j.1.1)
      (λ t. let u = both (ltb a n) (ltb b n) t in let v = ltb-true a n u.0 in let w = ltb-true b n u.1 in ⊎_elim (λ t. omega (arith, t.1))
      (λ t. omega (arith, t.0)) j.1.1)
      (either (eqb a b) (ltb a n && ltb b n) (every_at (pair_ok_at n pairs) 0 count ok j.0 (omega arith) j.1.0))) h

-- ---- how many blocks there are

len_or : (a b : Bool) (c : ℕ) → length (only_if (a || b) c) ≤ length (only_if a c) + length (only_if b c)
len_or true true c = omega arith
len_or true false c = omega arith
len_or false b c = omega arith

none_row : (p : ℕ → Bool) → ((c : ℕ) → p c ≡ false) → (n : ℕ) → rank p n ≡ 0
none_row p h n =
    let g : ℕ → List ℕ = λ c. only_if (p c) c in
    from (λ n. up_to g n ≡ 0) 0 (up_to_none g) (λ k q e. let z : length (only_if (p k) k) ≡ 0 = rw (h k) in omega (arith, up_to_more g k)) n (omega arith)

-- a row whose test passes at most at x has at most one column
row_single : (p : ℕ → Bool) (x : ℕ) → ((c : ℕ) → (c ≡ x → ⊥) → p c ≡ false) → (n : ℕ) → rank p n ≤ 1
row_single p x h n = single (λ c. only_if (p c) c) x (λ c e. rw (h c e)) (at_most_one (p x) x) n

-- and a pattern whose rows but y are empty has at most that many blocks
pattern_single : (n : ℕ) (p : ℕ → ℕ → Bool) (x y : ℕ) → ((r c : ℕ) → (r ≡ y → ⊥) → p r c ≡ false) → ((c : ℕ) → (c ≡ x → ⊥) → p y c ≡ false) → (r : ℕ)
    → start_of n p r ≤ 1
unfolding start_of
pattern_single n p x y h g r =
    single (row_of n p) y (λ r e. length_row n p r ∙ none_row (p r) (λ c. h r c e) n) (rw (length_row n p y) (row_single (p y) x g n)) r

and_no : (a b : Bool) → a ≡ false → (a && b) ≡ false
and_no a b h = rw h

and_no_right : (a b : Bool) → b ≡ false → (a && b) ≡ false
and_no_right true b h = h
and_no_right false b h = refl

start_or : (n : ℕ) (p q m : ℕ → ℕ → Bool) → ((r c : ℕ) → q r c ≡ (p r c || m r c)) → (r : ℕ) → start_of n q r ≤ start_of n p r + start_of n m r
unfolding start_of
start_or n p q m h r =
    up_to_sum (row_of n q) (row_of n p) (row_of n m)
    (λ i. rw (length_row n q i, length_row n p i, length_row n m i) (up_to_sum (λ c. only_if (q i c) c) (λ c. only_if (p i c) c) (λ c. only_if (m i c) c)
    (λ c. rw (h i c) (len_or (p i c) (m i c) c)) n))
    r

-- one pair stores two blocks at most
pair_two : (n a b r : ℕ) → start_of n (joins a b) r ≤ 2
pair_two n a b r =
    let one = pattern_single n (λ r c. eqb a r && eqb b c) b a (λ r c e. and_no (eqb a r) _ (ne_eqb a r (λ q. e (sym q))))
    (λ c e. and_no_right (eqb a a) _ (ne_eqb b c (λ q. e (sym q)))) r in
    let two = pattern_single n (λ r c. eqb a c && eqb b r) a b (λ r c e. and_no_right (eqb a c) _ (ne_eqb b r (λ q. e (sym q))))
    (λ c e. and_no (eqb a c) _ (ne_eqb a c (λ q. e (sym q)))) r in
    let all = start_or n (λ r c. eqb a r && eqb b c) (joins a b) (λ r c. eqb a c && eqb b r) (λ r c. refl) r in
    omega arith

diagonal_one : (n r : ℕ) → start_of n (λ r c. eqb r c) r ≤ r
diagonal_one n r =
    let p : ℕ → ℕ → Bool = λ r c. eqb r c in
    from (λ r. start_of n p r ≤ r) 0 (omega (arith, start_none n p))
    (λ k q h. omega (arith, start_more n p k, length_row n p k, row_single (p k) k (λ c e. ne_eqb k c (λ q. e (sym q))) n)) r (omega arith)

empty : (n r : ℕ) → start_of n (λ _ _. false) r ≡ 0
empty n r =
    let p : ℕ → ℕ → Bool = λ _ _. false in
    from (λ r. start_of n p r ≡ 0) 0 (start_none n p) (λ k q h. omega (arith, start_more n p k, length_row n p k, none_row (p k) (λ c. refl) n)) r
    (omega arith)

module _ (pairs : List ℕ) where
  stored_none : (r c : ℕ) → stored_by pairs 0 r c ≡ (eqb r c || false)
  unfolding stored_by joined
  stored_none r c = ap (λ (t : Bool). eqb r c || t) (sym (some_none (λ i. joins (left pairs i) (right pairs i) r c) 0))

  stored_more : (k r c : ℕ) → stored_by pairs (k + 1) r c ≡ (stored_by pairs k r c || joins (left pairs k) (right pairs k) r c)
  unfolding stored_by joined
  stored_more k r c =
      let p : ℕ → Bool = λ i. joins (left pairs i) (right pairs i) r c in
      ap (λ (t : Bool). eqb r c || t) (sym (some_more p 0 k (omega arith))) ∙ sym (or_assoc (eqb r c) (some p 0 k) (p k))

  -- THE ROWS BELOW r HAVE AT MOST r + 2 * count BLOCKS
  pub start_bound : (n count r : ℕ) → start_of n (stored_by pairs count) r ≤ r + 2 * count
  start_bound n count r =
      from (λ count. start_of n (stored_by pairs count) r ≤ r + 2 * count) 0
      (omega (arith, start_or n (λ r c. eqb r c) (stored_by pairs 0) (λ _ _. false) stored_none r, empty n r, diagonal_one n r))
      (λ k q h. omega (
        arith,
        start_or n (stored_by pairs k) (stored_by pairs (k + 1)) (joins (left pairs k) (right pairs k)) (stored_more k) r,
        pair_two n (left pairs k) (right pairs k) r,
      ))
      count (omega arith)
