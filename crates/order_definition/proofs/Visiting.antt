-- What `visit` leaves, from what its three calls leave.
use Prim.Native.Nat.{ℕ, ◌+◌, ◌-◌, ◌≤◌, ◌<◌}
use native.Mathlib.Omega.{arith}
use mathlib.Core.Path.{◌≡◌, sym, ap, ◌∙◌, subst}
use mathlib.Core.Logic.{◌⊎◌, inl, inr}
use mathlib.Core.Bool.{not}
use mathlib.Core.List.{List, [], ◌++◌}
use lib.ListN.{length, get_or, take, drop, take-append-drop}
use lib.Seq.{length-take-le}
use lib.Dec.{eqb}
use Rattle.order_definition.specs.Order.{passing, sorted}
use Rattle.order_definition.specs.Keys.{key_of, Below}
use Rattle.order_definition.specs.Marks.{unmarked, mark_all, open_of, Visited}
use Rattle.order_definition.proofs.At.{at_nil, at_lt, at_get_or, get_d_at, In}
use Rattle.order_definition.proofs.Pigeon.{in_left}
use Rattle.order_definition.proofs.Lists.{passing_in, in_sort}
use Rattle.order_definition.proofs.Sorting.{length_sort}
use Rattle.order_definition.proofs.Filling.{mid_is, put_is}

pub in_take : (k : ℕ) (l : List ℕ) (w : ℕ) → In w (take k l) → In w l
in_take k l w a = subst (λ (t : List ℕ). In w t) (take-append-drop k l) (in_left (take k l) (drop k l) w a)

pub below_in : (m : ℕ) (l : List ℕ) → Below m l → (w : ℕ) → In w l → w < m
below_in m l b w a = subst (λ (v : ℕ). v < m) (at_get_or 0 a.1) (b.below a.0 (at_lt a.1))

pub in_below : (m : ℕ) (l : List ℕ) → ((w : ℕ) → In w l → w < m) → Below m l
in_below m l f = record { below = λ k lt. f (get_or l k 0) (k, get_d_at l k 0 lt) }

open_in : (row mark : List ℕ) (v w : ℕ) → In w (open_of row mark v) → In w row
unfolding open_of
open_in row mark v w a = (passing_in (λ c. not (eqb c v)) row w (passing_in (unmarked mark) (passing (λ c. not (eqb c v)) row) w a).0).0

module _ (row degrees order mark : List ℕ) (v len r : ℕ)
    (room : len + length (open_of row mark v) ≤ length order)
    (upto : r ≡ len + length (open_of row mark v))
    (m : ℕ) (below : Below m row) where
  abbrev pub K : List ℕ
  K = open_of row mark v

  abbrev W : List ℕ
  W = (take len order ++ K) ++ drop r order

  abbrev pub S : List ℕ
  S = sorted (key_of degrees) K

  size : length (take len order) ≡ len
  size = length-take-le len order (omega arith)

  part : length K ≡ r - len
  part = omega arith

  length_S : length S ≡ r - len
  length_S = length_sort (key_of degrees) [] K ∙ omega arith

  mid : (w : List ℕ) → w ≡ W → take (r - len) (drop len w) ≡ K
  mid w e = ap (λ (l : List ℕ). take (r - len) (drop len l)) e ∙ mid_is (take len order) K (drop r order) len (r - len) size part

  pub sort_below : (w : List ℕ) → w ≡ W → Below m (take (r - len) (drop len w))
  sort_below w e = subst (λ (l : List ℕ). Below m l) (sym (mid w e)) (in_below m K (λ x a. below_in m row below x (open_in row mark v x a)))

  -- the order once the part is sorted
  pub put : (w s : List ℕ) → w ≡ W → s ≡ sorted (key_of degrees) (take (r - len) (drop len w))
      → take len w ++ (s ++ drop (r - len) (drop len w)) ≡ (take len order ++ S) ++ drop r order
  put w s e p =
      ap (λ (l : List ℕ). take len w ++ (l ++ drop (r - len) (drop len w))) (p ∙ ap (sorted (key_of degrees)) (mid w e))
      ∙ ap (λ (l : List ℕ). take len l ++ (S ++ drop (r - len) (drop len l))) e
      ∙ put_is (take len order) K (drop r order) len (r - len) size part S

  mid_sorted : (w : List ℕ) → w ≡ (take len order ++ S) ++ drop r order → take (r - len) (drop len w) ≡ S
  mid_sorted w e = ap (λ (l : List ℕ). take (r - len) (drop len l)) e ∙ mid_is (take len order) S (drop r order) len (r - len) size length_S

  pub mark_below : (w : List ℕ) → w ≡ (take len order ++ S) ++ drop r order → Below m (take (r - len) (drop len w))
  mark_below w e = subst (λ (l : List ℕ). Below m l) (sym (mid_sorted w e))
      (in_below m S (λ x a. below_in m row below x (open_in row mark v x (back x (in_sort (key_of degrees) [] K x a)))))
    where
      back : (x : ℕ) → In x [] ⊎ In x K → In x K
      back x (inl a) = absurd (at_nil a.1)
      back x (inr a) = a

  pub done : (w mark' : List ℕ) → w ≡ (take len order ++ S) ++ drop r order → mark' ≡ mark_all mark (take (r - len) (drop len w))
      → Visited row degrees order mark v len r w mark'
  done w mark' e p = record { upto = upto; listed = e; marked = p ∙ ap (mark_all mark) (mid_sorted w e) }
