-- What follows of specs/Mix.antt: its theorems, apart from the definitions.
use Rattle.std.specs.Prelude.{ℕ, ◌+◌, ◌*◌, ◌-◌, ◌≤◌, ◌<◌, ◌≡◌, List, ◌++◌, get_or, drop, take}
use Rattle.std.proofs.Common.{ap, sym, ◌∙◌, subst, append-nil, ⊎_elim, inl, inr, arith, mul-zero, mul-suc, mul-le-mul_left, add-one, length-append, length-drop, take-append-drop, get_or-append-add, get_or-drop, get_or-take, length-take-le, ext_get_or}
use Rattle.std.proofs.Math.ListN.{length}
use Rattle.std.proofs.Math.Seq.{sets-eq, take_at, drop-drop, drop-append-add, drop-length}
use Rattle.law.specs.Truth.{below_or, same_or}
use Rattle.law.specs.Gather.{gather, up_to}
use Rattle.law.proofs.Gather.{gather_none, gather_more, gather_at, gather_in, up_to_even}
use Rattle.law.specs.Store.{written, written_at, written_other}
use Rattle.law.specs.Mix.{Holds, mix}

one_on : (w k : ℕ) → w * (k + 1) ≡ w * k + w
one_on w k = ap (λ (i : ℕ). w * i) (add-one k) ∙ mul-suc w k

module _ {A : Type 0} (w : ℕ) (f : ℕ → List A) (long : (j : ℕ) → length (f j) ≡ w) where
  pub length_parts : (k : ℕ) → length (gather f 0 k) ≡ w * k
  unfolding up_to
  length_parts k = up_to_even f w long k

  pub length_mix : (k : ℕ) (l : List A) → w * k ≤ length l → length (mix w k f l) ≡ length l
  length_mix k l h = rw (length-append, length-drop) (omega (arith, length_parts k))

  pub mix_none : (l : List A) → l ≡ mix w 0 f l
  mix_none l = rw (mul-zero w, ← gather_none f 0)

  -- past the parts the buffer is as it was
  pub mix_past : (k j : ℕ) (l : List A) (d : A) → get_or (mix w k f l) (w * k + j) d ≡ get_or l (w * k + j) d
  mix_past k j l d =
      subst (λ (m : ℕ). get_or (mix w k f l) (m + j) d ≡ get_or l (w * k + j) d) (length_parts k)
      (get_or-append-add (gather f 0 k) (drop (w * k) l) j d ∙ get_or-drop (w * k) l j d)

  past : (p q : List A) (k m : ℕ) → length p ≡ k → drop (k + m) (p ++ q) ≡ drop m q
  past p q k m e = rw (← e) (drop-append-add p q m)

  pub mix_more : (k : ℕ) (l : List A) → w * k + w ≤ length l → written (mix w k f l) (w * k) (f k) ≡ mix w (k + 1) f l
  unfolding written
  mix_more k l h =
      let e : length (gather f 0 k) ≡ w * k = length_parts k in
      let room : w * k + length (f k) ≤ length (mix w k f l) = omega (arith, long k, length_mix k l (omega arith)) in
      sets-eq (f k) (mix w k f l) (w * k) room
      ∙ rw (
        take_at (gather f 0 k) (drop (w * k) l) (w * k) e,
        long k,
        past (gather f 0 k) (drop (w * k) l) (w * k) w e,
        drop-drop,
        one_on,
        ← gather_more f 0 k (omega arith),
      )

  -- the two, as a loop's turn has them: x is the buffer at the loop's head, y after the turn's store of v
  pub turn_reads : (k j : ℕ) (l x : List A) (d : A) → x ≡ mix w k f l → get_or x (w * k + j) d ≡ get_or l (w * k + j) d
  turn_reads k j l x d e = ap (λ (t : List A). get_or t (w * k + j) d) e ∙ mix_past k j l d

  pub turn_stores : (k : ℕ) (l x y v : List A) → x ≡ mix w k f l → y ≡ written x (w * k) v → v ≡ f k → w * k + w ≤ length l → y ≡ mix w (k + 1) f l
  turn_stores k l x y v e p q h = p ∙ ap (λ (t : List A). written t (w * k) v) e ∙ ap (λ (t : List A). written (mix w k f l) (w * k) t) q ∙ mix_more k l h

module _ {A : Type 0} (w : ℕ) (d : A) where
  below : (j p : ℕ) → j < p → w * j + w ≤ w * p
  below j p h = let less : j + 1 ≤ p = omega arith in omega (arith, one_on w j, mul-le-mul_left w less)

  -- a part, once stored, holds what was stored
  pub part_new : (l : List A) (p : ℕ) (v : List A) → length v ≡ w → w * p + w ≤ length l → Holds w d (written l (w * p) v) p v
  part_new l p v e room i h = written_at l (w * p) v i d (omega arith) (omega arith)

  -- and the others are as they were
  pub part_else : (l : List A) (p : ℕ) (v : List A) (j : ℕ) → length v ≡ w → (j ≡ p → ⊥) → (i : ℕ) → i < w → get_or (written l (w * p) v) (w * j + i) d
      ≡ get_or l (w * j + i) d
  part_else l p v j e ne i h =
      written_other l (w * p) v (w * j + i) d
      (⊎_elim (λ g. inl (omega (arith, below j p g)))
      (λ g. inr (⊎_elim (λ f. omega (arith, below p j f)) (λ f. absurd (ne (omega arith))) (below_or p j))) (below_or j p))

  -- to store v keeps v wherever it stands
  pub part_kept : (l : List A) (p : ℕ) (v : List A) (j : ℕ) → length v ≡ w → w * p + w ≤ length l → Holds w d l j v → Holds w d (written l (w * p) v) j v
  part_kept l p v j e room h i g =
      ⊎_elim (λ s. rw s (part_new l p v e room i g)) (λ ne. part_else l p v j e ne i g ∙ h i g) (same_or j p)

  -- what holds f's parts below k, and past them is as it was, is the mix of the two
  pub mix_of : (f : ℕ → List A) → ((j : ℕ) → length (f j) ≡ w) → (k : ℕ) (l x : List A) → w * k ≤ length x → ((j : ℕ) → j < k → Holds w d x j (f j))
      → drop (w * k) x ≡ drop (w * k) l → x ≡ mix w k f l
  mix_of f long k l x room parts rest =
      let front : take (w * k) x ≡ gather f 0 k =
      ext_get_or d (take (w * k) x) (gather f 0 k) (length-take-le (w * k) x room ∙ sym (length_parts w f long k))
      (λ i h. let g : i < w * k = omega (arith, length-take-le (w * k) x room) in get_or-take (w * k) x i d g ∙ same i g) in
      sym (take-append-drop (w * k) x) ∙ ap (λ (t : List A). t ++ drop (w * k) x) front ∙ ap (λ (t : List A). gather f 0 k ++ t) rest
    where
      same : (i : ℕ) → i < w * k → get_or x i d ≡ get_or (gather f 0 k) i d
      same i h =
          let t = gather_in f k i (omega (arith, up_to_even f w long k)) in
          let r = t.0 in
          let at : i ≡ up_to f r + (i - up_to f r) = omega (arith, t.1.1.0) in
          let less : i - up_to f r < w = omega (arith, t.1.1.0, t.1.1.1, up_to_even f w long r, up_to_even f w long (r + 1), one_on w r) in
          let even : up_to f r ≡ w * r = up_to_even f w long r in
          let place : w * r + (i - up_to f r) ≡ i = omega (arith, t.1.1.0) in
          (rw place at (parts r t.1.0 (i - up_to f r) less)) ∙ sym (ap (λ (q : ℕ). get_or (gather f 0 k) q d) at ∙ gather_at f k r (i - up_to f r) d
          t.1.0 (omega (arith, long r)))

-- a buffer that the parts fill
pub mix_whole : {A : Type 0} (w k : ℕ) (f : ℕ → List A) (l : List A) → length l ≡ w * k → mix w k f l ≡ gather f 0 k
mix_whole {A} w k f l e = ap (λ (i : ℕ). gather f 0 k ++ drop i l) (sym e) ∙ ap (λ (t : List A). gather f 0 k ++ t) (drop-length l)
    ∙ append-nil (gather f 0 k)
