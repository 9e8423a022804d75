-- What follows of specs/PassMeaning.antt: its theorems, apart from the definitions.
use Prim.Native.Nat.{ℕ, ◌+◌, ◌-◌, ◌≤◌, ◌<◌}
use Rattle.std.specs.Prelude.{◌≡◌}
use Rattle.std.proofs.Math.Path.{refl, sym, ap}
use Rattle.std.proofs.Common.{◌∙◌, le-leb}
use mathlib.Core.List.{List}
use Rattle.std.proofs.Math.Logic.{⊎_elim}
use native.Mathlib.Omega.{arith}
use Rattle.std.proofs.lemmas.Bool.{lt-leb}
use Rattle.std.proofs.Math.ListN.{length, get_or, length-set}
use Rattle.std.proofs.Math.Seq.{get_or-set_same, get_or-set_other}
use Rattle.std.specs.Float.Ieee.{Float, nan}
use Rattle.law.specs.Loop.{over}
use Rattle.law.proofs.Loop.{over_none, over_more, over_join, over_keeps, over_same, from}
use Rattle.law.specs.Truth.{below_or}
use Rattle.plane.specs.Plane.{◌⊖◌, ◌⊗◌, ◌⊘◌}
use Rattle.factor_passes.specs.Passes.{sum_step, row_sum, forward_by, forward_step, forward_of, taken_step, taken_of, back_step, backward_of}
use Rattle.factor_passes.specs.PassMeaning.{less_of, owed}

module _ (f : ℕ → ℕ) (l : ℕ → ℕ → Float) where
  -- ---- forwards

  -- a turn leaves every entry but its own
  forward_else : (a b k : ℕ) (y : List Float) → ((j : ℕ) → a ≤ j → j < b → k ≡ j → ⊥) → get_or (over (forward_step f l) a b y) k nan ≡ get_or y k nan
  unfolding forward_step
  forward_else a b k y ne =
      over_keeps (λ t. get_or t k nan ≡ get_or y k nan) (forward_step f l) a b y (λ j t p q e. get_or-set_other t j k _ nan (ne j p q) ∙ e) refl

  pub forward_long : (a b : ℕ) (y : List Float) → length (over (forward_step f l) a b y) ≡ length y
  unfolding forward_step
  forward_long a b y = over_keeps (λ t. length t ≡ length y) (forward_step f l) a b y (λ j t p q e. length-set t j _ ∙ e) refl

  own : (i : ℕ) (z : List Float) → i < length z → get_or (forward_step f l i z) i nan ≡ forward_by f l z (get_or z i nan) i
  unfolding forward_step
  own i z h = get_or-set_same z i _ nan h

  -- entry i looks only at those before it
  pub summed : (i : ℕ) (z y : List Float) (u : Float) → ((k : ℕ) → k < i → get_or z k nan ≡ get_or y k nan) → forward_by f l z u i ≡ forward_by f l y u i
  unfolding forward_by row_sum
  summed i z y u e = rw (over_same (sum_step l z i) (sum_step l y i) (f i) i _ (λ k t p q. rw (e k q)))

  -- L y = b
  pub forward_is : (m : ℕ) (b : List Float) → m ≤ length b → (i : ℕ) → i < m → get_or (forward_of f l m b) i nan ≡ forward_by f l (forward_of f l m b)
      (get_or b i nan) i
  unfolding forward_of
  forward_is m b room i h =
      let y = over (forward_step f l) 0 m b in
      let z = over (forward_step f l) 0 i b in
      let rest : y ≡ over (forward_step f l) (i + 1) m (forward_step f l i z) =
      sym (over_join (forward_step f l) 0 (i + 1) m b (omega arith) (omega arith)) ∙ ap (over (forward_step f l) (i + 1) m)
      (sym (over_more (forward_step f l) 0 i b (omega arith))) in
      let same : (k : ℕ) → k < i → get_or z k nan ≡ get_or y k nan =
      λ k g. sym (ap (λ (t : List Float). get_or t k nan) (sym (over_join (forward_step f l) 0 i m b (omega arith) (omega arith)))
      ∙ forward_else i m k z (λ j p q e. omega arith)) in
      ap (λ (t : List Float). get_or t i nan) rest ∙ forward_else (i + 1) m i (forward_step f l i z) (λ j p q e. omega arith)
      ∙ own i z (omega (arith, forward_long 0 i b)) ∙ ap (λ (u : Float). forward_by f l z u i) (forward_else 0 i i b (λ j p q e. omega arith))
      ∙ summed i z y (get_or b i nan) same

  -- ---- backwards

  taken_else : (a b j k : ℕ) (x : Float) (y : List Float) → ((c : ℕ) → a ≤ c → c < b → k ≡ c → ⊥) → get_or (over (taken_step l j x) a b y) k nan ≡ get_or y k nan
  taken_else a b j k x y ne =
      over_keeps (λ t. get_or t k nan ≡ get_or y k nan) (taken_step l j x) a b y (λ c t p q e. get_or-set_other t c k _ nan (ne c p q) ∙ e) refl

  taken_long : (a b j : ℕ) (x : Float) (y : List Float) → length (over (taken_step l j x) a b y) ≡ length y
  taken_long a b j x y = over_keeps (λ t. length t ≡ length y) (taken_step l j x) a b y (λ c t p q e. length-set t c _ ∙ e) refl

  taken_at : (j i : ℕ) (x : Float) (y : List Float) → i < j → i < length y → get_or (taken_of f l j x y) i nan ≡ (less_of f l) j i x (get_or y i nan)
  unfolding taken_of less_of
  taken_at j i x y h room =
      ⊎_elim (λ g. rw (lt-leb (f j) i g) (taken_else (f j) j j i x y (λ c p q e. omega arith)))
      (λ g. let z = over (taken_step l j x) (f j) i y in
      let rest : over (taken_step l j x) (f j) j y ≡ over (taken_step l j x) (i + 1) j (taken_step l j x i z) =
      sym (over_join (taken_step l j x) (f j) (i + 1) j y (omega arith) (omega arith)) ∙ ap (over (taken_step l j x) (i + 1) j)
      (sym (over_more (taken_step l j x) (f j) i y g)) in
      rw (le-leb (f j) i g)
      (ap (λ (t : List Float). get_or t i nan) rest ∙ taken_else (i + 1) j j i x (taken_step l j x i z) (λ c p q e. omega arith)
      ∙ get_or-set_same z i _ nan (omega (arith, taken_long (f j) i j x y)) ∙ ap (λ (u : Float). u ⊖ l j i ⊗ x)
      (taken_else (f j) i j i x y (λ c p q e. omega arith))))
      (below_or i (f j))

  -- row j's turn: the entries past it stay, its own is divided, those before it are lessened
  back_long : (j : ℕ) (y : List Float) → length (back_step f l j y) ≡ length y
  unfolding back_step taken_of
  back_long j y = taken_long (f j) j j _ _ ∙ length-set y j _

  back_past : (j i : ℕ) (y : List Float) → j < i → get_or (back_step f l j y) i nan ≡ get_or y i nan
  unfolding back_step taken_of
  back_past j i y h = taken_else (f j) j j i _ _ (λ c p q e. omega arith) ∙ get_or-set_other y j i _ nan (λ e. omega arith)

  back_own : (j : ℕ) (y : List Float) → j < length y → get_or (back_step f l j y) j nan ≡ get_or y j nan ⊘ l j j
  unfolding back_step taken_of
  back_own j y h = taken_else (f j) j j j _ _ (λ c p q e. omega arith) ∙ get_or-set_same y j _ nan h

  less : (j i : ℕ) (y : List Float) → i < j → j < length y → get_or (back_step f l j y) i nan ≡ (less_of f l) j i (get_or y j nan ⊘ l j j) (get_or y i nan)
  unfolding back_step
  less j i y h g = taken_at j i _ _ h (rw length-set (omega arith)) ∙ ap ((less_of f l) j i (get_or y j nan ⊘ l j j)) (get_or-set_other y j i _ nan (λ e. omega arith))

  back_less : (j i : ℕ) (y : List Float) → i < j → j < length y → get_or (back_step f l j y) i nan ≡ (less_of f l) j i (get_or (back_step f l j y) j nan) (get_or y i nan)
  back_less j i y h g = less j i y h g ∙ ap (λ (x : Float). (less_of f l) j i x (get_or y i nan)) (sym (back_own j y g))

  -- Lᵀ x = y
  module _ (m : ℕ) (y : List Float) (room : m ≤ length y) where
    turn : ℕ → List Float → List Float
    turn k = back_step f l (m - (k + 1))

    turns_long : (k : ℕ) → length (over turn 0 k y) ≡ length y
    unfolding turn
    turns_long k = over_keeps (λ t. length t ≡ length y) turn 0 k y (λ j t p q e. back_long (m - (j + 1)) t ∙ e) refl

    -- an entry is final once its row has had its turn
    final : (k : ℕ) → k < m → get_or (over turn 0 m y) (m - (k + 1)) nan ≡ get_or (turn k (over turn 0 k y)) (m - (k + 1)) nan
    unfolding turn
    final k h =
        let rest : over turn 0 m y ≡ over turn (k + 1) m (turn k (over turn 0 k y)) =
        sym (over_join turn 0 (k + 1) m y (omega arith) (omega arith)) ∙ ap (over turn (k + 1) m) (sym (over_more turn 0 k y (omega arith))) in
        ap (λ (t : List Float). get_or t (m - (k + 1)) nan) rest
        ∙ over_keeps (λ t. get_or t (m - (k + 1)) nan ≡ get_or (turn k (over turn 0 k y)) (m - (k + 1)) nan) turn (k + 1) m (turn k (over turn 0 k y))
        (λ j t p q e. back_past (m - (j + 1)) (m - (k + 1)) t (omega arith) ∙ e) refl

    left_so_far : (i : ℕ) → i < m → (k : ℕ) → k ≤ m - (i + 1) → get_or (over turn 0 k y) i nan ≡ over
        (λ k. (less_of f l) (m - (k + 1)) i (get_or (over turn 0 m y) (m - (k + 1)) nan)) 0 k (get_or y i nan)
    unfolding turn
    left_so_far i h =
        let step : ℕ → Float → Float = λ k. (less_of f l) (m - (k + 1)) i (get_or (over turn 0 m y) (m - (k + 1)) nan) in
        λ k. from (λ k. k ≤ m - (i + 1) → get_or (over turn 0 k y) i nan ≡ over step 0 k (get_or y i nan)) 0
        (λ _. ap (λ (t : List Float). get_or t i nan) (sym (over_none turn 0 y)) ∙ over_none step 0 (get_or y i nan))
        (λ k q ih g.
        ap (λ (t : List Float). get_or t i nan) (sym (over_more turn 0 k y (omega arith)))
        ∙ back_less (m - (k + 1)) i (over turn 0 k y) (omega arith) (omega (arith, turns_long k))
        ∙ ap (λ (x : Float). (less_of f l) (m - (k + 1)) i x (get_or (over turn 0 k y) i nan)) (sym (final k (omega arith)))
        ∙ ap (step k) (ih (omega arith)) ∙ over_more step 0 k (get_or y i nan) (omega arith))
        k (omega arith)

    pub backward_is : (i : ℕ) → i < m → get_or (backward_of f l m y) i nan ≡ (owed f l) m (backward_of f l m y) i (get_or y i nan) ⊘ l i i
    unfolding backward_of owed turn
    backward_is i h =
        let k = m - (i + 1) in
        let e : m - (k + 1) ≡ i = omega arith in
        (rw e at (final k (omega arith))) ∙ back_own i (over turn 0 k y) (omega (arith, turns_long k)) ∙ ap (λ (t : Float). t ⊘ l i i)
        (left_so_far i h k (omega arith))
