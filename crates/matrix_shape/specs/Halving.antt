-- A SEARCH BY HALVES: of `size` slots from low on, the half that can hold a column, some times over.
use Prim.Native.Nat.{ℕ, zero, suc, ◌+◌, ◌-◌, ◌/◌, ◌≤◌, ◌<◌}
use Rattle.std.specs.Prelude.{◌≡◌, refl, true, false, cond, leb, eqb}
use Rattle.std.proofs.Math.Path.{sym, ap}
use Rattle.std.proofs.Common.{◌∙◌, ⊎_elim, arith, leb-true, leb-false, le-leb, eq-eqb, ne_eqb}
use Rattle.std.proofs.lemmas.Bool.{lt-leb}
use Rattle.law.proofs.Loop.{climbing}
use Rattle.law.specs.Truth.{below_or, holds_or}
use Rattle.law.specs.Find.{find, find_none, find_first}
use Rattle.law.specs.Limit.{absent}
use Rattle.matrix_shape.specs.Index.{Strict}

-- where the half starts that can hold the column: at the middle, if what stands there is not past the column
unfoldable pub half : (ℕ → ℕ) → ℕ → ℕ → ℕ → ℕ
half c col low size = cond (leb (c (low + size / 2)) col) (low + size / 2) low

-- and so on: half of `size` slots are `size - size / 2`
unfoldable pub halved : (ℕ → ℕ) → ℕ → ℕ → ℕ → ℕ → ℕ
halved c col zero low size = low
halved c col (suc n) low size = halved c col n (half c col low size) (size - size / 2)

-- how many are left
unfoldable pub left : ℕ → ℕ → ℕ
left zero size = size
left (suc n) size = left n (size - size / 2)

-- ---- the steps

half_up : (c : ℕ → ℕ) (col low size : ℕ) → leb (c (low + size / 2)) col ≡ true → half c col low size ≡ low + size / 2
unfolding half
half_up c col low size t = rw t

half_low : (c : ℕ → ℕ) (col low size : ℕ) → leb (c (low + size / 2)) col ≡ false → half c col low size ≡ low
unfolding half
half_low c col low size t = rw t

-- the half lies among the slots
pub half_in : (c : ℕ → ℕ) (col low size : ℕ) → half c col low size + (size - size / 2) ≤ low + size
half_in c col low size =
    ⊎_elim (λ t. omega (arith, half_up c col low size t)) (λ t. omega (arith, half_low c col low size t)) (holds_or (leb (c (low + size / 2)) col))

half_from : (c : ℕ → ℕ) (col low size : ℕ) → low ≤ half c col low size
half_from c col low size =
    ⊎_elim (λ t. omega (arith, half_up c col low size t)) (λ t. omega (arith, half_low c col low size t)) (holds_or (leb (c (low + size / 2)) col))

-- four steps are twice two
pub halved_four : (c : ℕ → ℕ) (col low size : ℕ) → halved c col 2 (halved c col 2 low size) (left 2 size) ≡ halved c col 4 low size
unfolding halved left
halved_four c col low size = refl

pub halved_in : (c : ℕ → ℕ) (col n low size : ℕ) → halved c col n low size + left n size ≤ low + size
unfolding halved left
halved_in c col zero low size = omega arith
halved_in c col (suc n) low size = omega (arith, half_in c col low size, halved_in c col n (half c col low size) (size - size / 2))

pub halved_from : (c : ℕ → ℕ) (col n low size : ℕ) → low ≤ halved c col n low size
unfolding halved
halved_from c col zero low size = omega arith
halved_from c col (suc n) low size = omega (arith, half_from c col low size, halved_from c col n (half c col low size) (size - size / 2))

-- one slot stays
pub halved_one : (c : ℕ → ℕ) (col n low : ℕ) → halved c col n low 1 ≡ low
unfolding halved
halved_one c col zero low = refl
halved_one c col (suc n) low =
    let e : half c col low 1 ≡ low = ⊎_elim (λ t. omega (arith, half_up c col low 1 t)) (λ t. half_low c col low 1 t)
    (holds_or (leb (c (low + 1 / 2)) col)) in
    rw e (halved_one c col n low)

-- two steps leave one of four, and four one of sixteen
pub left_two : (size : ℕ) → 0 < size → size ≤ 4 → left 2 size ≡ 1
unfolding left
left_two size h l = omega arith

pub left_four : (size : ℕ) → 0 < size → size ≤ 16 → left 4 size ≡ 1
unfolding left
left_four size h l = let some : (0 < left 2 size) × (left 2 size ≤ 4) = (omega arith, omega arith) in left_two (left 2 size) some.0 some.1

-- ---- the steps as the code has them: r is what a call answers

module _ (c : ℕ → ℕ) (col low size : ℕ) where
  pub one_up : c (low + size / 2) ≤ col → low + size / 2 ≡ halved c col 1 low size
  unfolding halved
  one_up h = sym (half_up c col low size (le-leb _ _ h))

  pub one_low : col < c (low + size / 2) → low ≡ halved c col 1 low size
  unfolding halved
  one_low h = sym (half_low c col low size (lt-leb _ _ h))

  pub room : (n r : ℕ) → r ≡ halved c col n low size → r + left n size ≤ low + size
  room n r e = omega (arith, halved_in c col n low size)

  pub two_is : (q r : ℕ) → q ≡ halved c col 1 low size → r ≡ halved c col 1 q (size - size / 2) → r ≡ halved c col 2 low size
  unfolding halved
  two_is q r e f = f ∙ ap (λ (z : ℕ). halved c col 1 z (size - size / 2)) e

  pub four_is : (q r : ℕ) → q ≡ halved c col 2 low size → r ≡ halved c col 2 q (left 2 size) → r ≡ halved c col 4 low size
  four_is q r e f = f ∙ (ap (λ (z : ℕ). halved c col 2 z (left 2 size)) e ∙ halved_four c col low size)

  pub near_is : (r : ℕ) → 0 < size → size ≤ 4 → r ≡ halved c col 2 low size → r ≡ halved c col 4 low size
  near_is r h l e = e ∙ (sym (halved_one c col 2 (halved c col 2 low size)) ∙ (ap (halved c col 2 (halved c col 2 low size)) (sym (left_two size h l))
      ∙ halved_four c col low size))

-- ---- what a step keeps

-- where one of the slots a..b has the column, it is one of the `size` slots from low on
pub record Within (c : ℕ → ℕ) (a b col low size : ℕ) : Type 0 where
  pub some : 0 < size
  pub first : a ≤ low
  pub last : low + size ≤ b
  pub holds : (k : ℕ) → a ≤ k → k < b → c k ≡ col → (low ≤ k) × (k < low + size)

pub within_all : (c : ℕ → ℕ) (a b col : ℕ) → a < b → Within c a b col a (b - a)
within_all c a b col h = record {
  some = omega arith;
  first = omega arith;
  last = omega arith;
  holds = λ k g l e. (g, omega arith);
}

module _ (c : ℕ → ℕ) (a b col : ℕ) (strict : Strict c a b) where
  within_half : (low size : ℕ) → Within c a b col low size → Within c a b col (half c col low size) (size - size / 2)
  within_half low size w = ⊎_elim up down (holds_or (leb (c mid) col))
    where
      mid : ℕ
      mid = low + size / 2

      inside : mid < b
      inside = omega (arith, w.some, w.last)

      up : leb (c mid) col ≡ true → Within c a b col (half c col low size) (size - size / 2)
      up t =
          let h : c mid ≤ col = leb-true _ _ t in
          rw (half_up c col low size t) (record {
            some = omega (arith, w.some);
            first = omega (arith, w.first);
            last = omega (arith, w.last);
            holds = λ k g l e. ⊎_elim (λ u. absurd (omega (arith, climbing c a b strict k mid g u inside)))
                (λ u. (u, omega (arith, (w.holds k g l e).1))) (below_or k mid);
          })

      down : leb (c mid) col ≡ false → Within c a b col (half c col low size) (size - size / 2)
      down t =
          let h : col < c mid = leb-false _ _ t in
          rw (half_low c col low size t) (record {
            some = omega (arith, w.some);
            first = w.first;
            last = omega (arith, w.last);
            holds = λ k g l e. (
              (w.holds k g l e).0,
              ⊎_elim (λ u. omega arith)
                  (λ u. absurd (⊎_elim (λ v. omega (arith, climbing c a b strict mid k (omega (arith, w.first)) v l))
                  (λ v. let z : k ≡ mid = omega arith in omega (arith, rw z at e)) (below_or mid k))) (below_or k mid),
            );
          })

  pub within_halved : (n low size : ℕ) → Within c a b col low size → Within c a b col (halved c col n low size) (left n size)
  unfolding halved left
  within_halved zero low size w = w
  within_halved (suc n) low size w = within_halved n (half c col low size) (size - size / 2) (within_half low size w)

  -- once one slot is left, it has the column or none has
  pub found : (low : ℕ) → Within c a b col low 1 → c low ≡ col → low ≡ find (λ k. eqb (c k) col) a b absent
  found low w e =
      sym (find_first (λ k. eqb (c k) col) absent a b low w.first (omega (arith, w.last)) (eq-eqb _ _ e)
      (λ j m f. ne_eqb (c j) col (λ q. omega (arith, (w.holds j m (omega (arith, w.last)) q).0))))

  pub missing : (low : ℕ) → Within c a b col low 1 → (c low ≡ col → ⊥) → absent ≡ find (λ k. eqb (c k) col) a b absent
  missing low w differ =
      sym (find_none (λ k. eqb (c k) col) absent a b
      (λ j m f. ne_eqb (c j) col (λ q. let i = w.holds j m f q in let e : j ≡ low = omega (arith, i.0, i.1) in differ (rw e at q))))

  pub none : b ≤ a → absent ≡ find (λ k. eqb (c k) col) a b absent
  none h = sym (find_none (λ k. eqb (c k) col) absent a b (λ j m f. absurd (omega arith)))
