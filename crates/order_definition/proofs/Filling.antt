-- The laws of the loops that fill a list from a row.
use Prim.Native.Nat.{ℕ, suc, ◌+◌, ◌≤◌, ◌<◌}
use native.Mathlib.Omega.{arith}
use native.Mathlib.Numerals.{add-one}
use mathlib.Core.Path.{◌≡◌, refl, sym, ap, ◌∙◌}
use mathlib.Core.Bool.{Bool, true, false, not, ◌&&◌}
use mathlib.Core.List.{List, [], ◌∷◌, ◌++◌, append_assoc, append-nil}
use lib.ListN.{length, get_or, take, drop, set, length-append, length-set, take-append-drop}
use lib.Seq.{set_at, drop-cons, length-take-le, take-suc, take_all}
use lib.Dec.{eqb}
use Rattle.order_definition.specs.Order.{passing, cons_if}
use Rattle.order_definition.specs.Marks.{unmarked, mark_all, open_of}

-- what is stored behind a front of a buffer makes the front longer by one
pub store_next : {A : Type 0} (f b : List A) (i : ℕ) (x : A) → length f ≡ i → i < length b → set (f ++ drop i b) i x ≡ (f ++ (x ∷ [])) ++ drop (suc i) b
store_next {A} f b i x e lt =
    ap {B = List A} (λ t. set (f ++ t) i x) (drop-cons b i x lt)
    ∙ set_at f (get_or b i x) (drop (suc i) b) x i e
    ∙ sym (lib.Seq.append_snoc f x (drop (suc i) b))

-- a list is stored from its front on
pub store_copy : (s b : List ℕ) (i : ℕ) → i < length b → length s ≡ length b → set (take i s ++ drop i b) i (get_or s i 0) ≡ take (suc i) s ++ drop (suc i) b
store_copy s b i lt e =
    store_next (take i s) b i (get_or s i 0) (length-take-le i s (omega arith)) lt
    ∙ ap {B = List ℕ} (λ t. t ++ drop (suc i) b) (sym (take-suc s i 0 (omega arith)))

pub passing_append : (t : ℕ → Bool) (l m : List ℕ) → passing t (l ++ m) ≡ passing t l ++ passing t m
passing_append t [] m = refl
passing_append t (x ∷ l) m = go (t x) (passing_append t l m)
  where
    go : (b : Bool) → passing t (l ++ m) ≡ passing t l ++ passing t m → cons_if b x (passing t (l ++ m)) ≡ cons_if b x (passing t l) ++ passing t m
    go true ih = ap {B = List ℕ} (λ r. x ∷ r) ih
    go false ih = ih

passing_passing : (a b : ℕ → Bool) (l : List ℕ) → passing a (passing b l) ≡ passing (λ x. b x && a x) l
passing_passing a b [] = refl
passing_passing a b (x ∷ l) = go (b x) (passing_passing a b l)
  where
    go : (c : Bool) → passing a (passing b l) ≡ passing (λ x. b x && a x) l → passing a (cons_if c x (passing b l)) ≡ cons_if (c && a x) x
        (passing (λ x. b x && a x) l)
    go true ih = ap {B = List ℕ} (λ r. cons_if (a x) x r) ih
    go false ih = ih

-- ---- a row's open neighbours, one by one

abbrev pub wanted : List ℕ → ℕ → ℕ → Bool
wanted mark v w = not (eqb w v) && unmarked mark w

-- those of the first k
abbrev pub open_to : List ℕ → List ℕ → ℕ → ℕ → List ℕ
open_to row mark v k = passing (wanted mark v) (take k row)

pub open_to_all : (row mark : List ℕ) (v k : ℕ) → length row ≤ k → open_to row mark v k ≡ open_of row mark v
unfolding open_of
open_to_all row mark v k h = ap (passing (wanted mark v)) (take_all k row h) ∙ sym (passing_passing (unmarked mark) (λ c. not (eqb c v)) row)

open_to_more : (row mark : List ℕ) (v k : ℕ) → k < length row
    → open_to row mark v (suc k) ≡ open_to row mark v k ++ cons_if (wanted mark v (get_or row k 0)) (get_or row k 0) []
open_to_more row mark v k lt = ap (passing (wanted mark v)) (take-suc row k 0 lt) ∙ passing_append (wanted mark v) (take k row) (get_or row k 0 ∷ [])

-- a part of a row has at most as many
open_to_le : (row mark : List ℕ) (v k : ℕ) → length (open_to row mark v k) ≤ length (open_of row mark v)
open_to_le row mark v k =
    let t = wanted mark v in
    let e = ap length (sym (open_to_all row mark v (length row) (omega arith)) ∙ ap (passing t) (take_all (length row) row (omega arith) ∙ sym (take-append-drop k row))
    ∙ passing_append t (take k row) (drop k row))
    ∙ length-append (open_to row mark v k) (passing t (drop k row)) in
    omega arith

-- ---- marks

pub mark_all_append : (m l k : List ℕ) → mark_all m (l ++ k) ≡ mark_all (mark_all m l) k
mark_all_append m [] k = refl
mark_all_append m (x ∷ l) k = mark_all_append (set m x 1) l k

pub length_mark_all : (m l : List ℕ) → length (mark_all m l) ≡ length m
length_mark_all m [] = refl
length_mark_all m (x ∷ l) = length_mark_all (set m x 1) l ∙ length-set m x 1

pub mark_all_more : (m l : List ℕ) (k : ℕ) → k < length l → mark_all m (take (suc k) l) ≡ set (mark_all m (take k l)) (get_or l k 0) 1
mark_all_more m l k h = ap (mark_all m) (take-suc l k 0 h) ∙ mark_all_append m (take k l) (get_or l k 0 ∷ [])

-- ---- one turn of the loop that appends

module _ (row mark : List ℕ) (v len : ℕ) (order₀ : List ℕ) where
  abbrev pub Appended : ℕ → ℕ → List ℕ → Type 0
  Appended k at order = (at ≡ len + length (open_to row mark v k)) × (length order ≡ length order₀)
      × (order ≡ (take len order₀ ++ open_to row mark v k) ++ drop at order₀)

  module _ (k at : ℕ) (order : List ℕ) (lt : k < length row) (a : Appended k at order) where
    turn : (b : Bool) → wanted mark v (get_or row k 0) ≡ b → open_to row mark v (suc k) ≡ open_to row mark v k ++ cons_if b (get_or row k 0) []
    turn b w = open_to_more row mark v k lt ∙ ap {B = List ℕ} (λ t. open_to row mark v k ++ cons_if t (get_or row k 0) []) w

    -- the place that a turn fills is within the room that the whole row is promised
    pub append_room : (m : ℕ) → wanted mark v (get_or row k 0) ≡ true → len + length (open_of row mark v) ≤ m → at < m
    append_room m w room =
        let q = ap length (turn true w) ∙ length-append (open_to row mark v k) (get_or row k 0 ∷ []) in
        omega (arith, a.0, open_to_le row mark v (suc k))

    pub append_yes : wanted mark v (get_or row k 0) ≡ true → at < length order₀ → Appended (k + 1) (at + 1) (set order at (get_or row k 0))
    append_yes w room =
        let x = get_or row k 0 in
        let m = turn true w in
        let long = length-append (open_to row mark v k) (x ∷ []) in
        let lf : length (take len order₀ ++ open_to row mark v k) ≡ at = length-append (take len order₀) (open_to row mark v k)
        ∙ omega (arith, length-take-le len order₀ (omega (arith, a.0)), a.0) in
        rw (add-one k, m) (
          omega (arith, a.0),
          length-set order at x ∙ a.1,
          ap (λ (l : List ℕ). set l at x) a.2
              ∙ store_next (take len order₀ ++ open_to row mark v k) order₀ at x lf room
              ∙ ap {B = List ℕ} (λ l. l ++ drop (suc at) order₀) (append_assoc (take len order₀) (open_to row mark v k) (x ∷ []))
              ∙ ap (λ (i : ℕ). (take len order₀ ++ (open_to row mark v k ++ (x ∷ []))) ++ drop i order₀) (sym (add-one at)),
        )

    pub append_no : wanted mark v (get_or row k 0) ≡ false → Appended (k + 1) at order
    append_no w = rw (add-one k, turn false w, append-nil) a

-- ---- a part in the middle

module _ (P K D : List ℕ) (a k : ℕ) (la : length P ≡ a) (lk : length K ≡ k) where
  drop_front : drop a ((P ++ K) ++ D) ≡ K ++ D
  drop_front = ap (λ (l : List ℕ). drop a l) (append_assoc P K D) ∙ lib.Seq.drop_at P (K ++ D) a la

  pub mid_is : take k (drop a ((P ++ K) ++ D)) ≡ K
  mid_is = ap (λ (l : List ℕ). take k l) drop_front ∙ lib.Seq.take_at K D k lk

  post_is : drop k (drop a ((P ++ K) ++ D)) ≡ D
  post_is = ap (λ (l : List ℕ). drop k l) drop_front ∙ lib.Seq.drop_at K D k lk

  front_is : take a ((P ++ K) ++ D) ≡ P
  front_is = ap (λ (l : List ℕ). take a l) (append_assoc P K D) ∙ lib.Seq.take_at P (K ++ D) a la

  -- the part replaced by another as long
  pub put_is : (S : List ℕ) → take a ((P ++ K) ++ D) ++ (S ++ drop k (drop a ((P ++ K) ++ D))) ≡ (P ++ S) ++ D
  put_is S = ap {B = List ℕ} (λ l. l ++ (S ++ drop k (drop a ((P ++ K) ++ D)))) front_is ∙ ap {B = List ℕ} (λ l. P ++ (S ++ l)) post_is
      ∙ sym (append_assoc P S D)
