-- STORES INTO A BUFFER: a list stored one by one from a place on, parts stored one after the other from the front, and lengths after stores.
use Prim.Native.Nat.{ℕ, zero, suc, ◌+◌, ◌-◌, ◌≤◌, ◌<◌}
use Rattle.std.specs.Prelude.{◌≡◌, ◌⊎◌, set, take, replicate}
use Rattle.std.proofs.Math.Path.{refl, ap}
use Rattle.std.proofs.Common.{sym, ◌∙◌, add-one, length-set, length-drop, get_or-take, get_or-drop, get_or-append-add, drop_at}
use mathlib.Core.List.{List, [], ◌∷◌, ◌++◌, append-nil, append_assoc}
use Rattle.std.proofs.Math.Logic.{⊎_elim, inl, inr}
use native.Mathlib.Omega.{arith}
use Rattle.std.proofs.Math.Nat.{add-zero, zero-add}
use Rattle.std.proofs.Math.ListN.{length, get_or, drop, get_or-append}
use Rattle.std.proofs.lemmas.List.{length-replicate, replicate-append-replicate}
use Rattle.std.proofs.lemmas.List.Edits.{sets, sets-eq}
use Rattle.std.proofs.Math.Seq.{length-sets, drop-length, drop-set-lt, length-take-le, get_or-set_other}

module _ {A : Type 0} where
  -- vs stored one by one from place i on. It is `sets`, shut, so that what stands in it is found by matching
  unfoldable pub written : List A → ℕ → List A → List A
  written l i vs = sets l i vs

  pub written_append : (l : List A) (i : ℕ) (xs ys : List A) → written (written l i xs) (i + length xs) ys ≡ written l i (xs ++ ys)
  unfolding written
  written_append l i [] ys = rw add-zero
  written_append l i (x ∷ xs) ys = let e : i + suc (length xs) ≡ suc i + length xs = omega arith in rw e (written_append (set l i x) (suc i) xs ys)

  -- one more behind them
  pub written_one : (l : List A) (i : ℕ) (vs : List A) (v : A) → set (written l i vs) (i + length vs) v ≡ written l i (vs ++ (v ∷ []))
  unfolding written
  written_one l i vs v = written_append l i vs (v ∷ [])

  pub written_front : (l vs : List A) → length vs ≤ length l → written l 0 vs ≡ vs ++ drop (length vs) l
  unfolding written
  written_front l vs h =
      let z : 0 + length vs ≡ length vs = zero-add _ in
      rw z at (sets-eq vs l 0 (omega arith))

  pub written_whole : (l vs : List A) → length vs ≡ length l → written l 0 vs ≡ vs
  written_whole l vs h = written_front l vs (omega arith) ∙ ap (λ (k : ℕ). vs ++ drop k l) h ∙ ap (λ (t : List A). vs ++ t) (drop-length l) ∙ append-nil vs

  -- ---- what stands where after a store

  pub written_at : (l : List A) (i : ℕ) (vs : List A) (j : ℕ) (d : A) → j < length vs → i + length vs ≤ length l
      → get_or (written l i vs) (i + j) d ≡ get_or vs j d
  unfolding written
  written_at l i vs j d h room =
      let e : length (take i l) ≡ i = length-take-le i l (omega arith) in
      ap (λ (t : List A). get_or t (i + j) d) (sets-eq vs l i room ∙ append_assoc (take i l) vs (drop (i + length vs) l))
      ∙ (rw e at (get_or-append-add (take i l) (vs ++ drop (i + length vs) l) j d))
      ∙ get_or-append vs (drop (i + length vs) l) d j h

  pub written_other : (l : List A) (i : ℕ) (vs : List A) (k : ℕ) (d : A) → (k < i) ⊎ (i + length vs ≤ k) → get_or (written l i vs) k d ≡ get_or l k d
  unfolding written
  written_other l i [] k d h = refl
  written_other l i (v ∷ vs) k d h =
      let ne : k ≡ i → ⊥ = λ e. ⊎_elim (λ g. omega arith) (λ g. omega arith) h in
      written_other (set l i v) (suc i) vs k d (⊎_elim (λ g. inl (omega arith)) (λ g. inr (omega arith)) h) ∙ get_or-set_other l i k v d ne

  -- a store before place n leaves what is past it
  pub drop_written : (n : ℕ) (l : List A) (i : ℕ) (vs : List A) → i + length vs ≤ n → drop n (written l i vs) ≡ drop n l
  unfolding written
  drop_written n l i [] h = refl
  drop_written n l i (v ∷ vs) h = drop_written n (set l i v) (suc i) vs (omega arith) ∙ drop-set-lt n l i v (omega arith)

  -- ---- lengths after stores: m is the buffer l after the store

  pub set_long : (l : List A) (i : ℕ) (v : A) (m : List A) → m ≡ set l i v → length m ≡ length l
  set_long l i v m e = ap length e ∙ length-set l i v

  pub written_long : (l : List A) (i : ℕ) (vs m : List A) → m ≡ written l i vs → length m ≡ length l
  unfolding written
  written_long l i vs m e = ap length e ∙ length-sets l i vs

  -- ---- a buffer that holds one value

  pub drop_replicate : (k m : ℕ) (a : A) → k ≤ m → drop k (replicate m a) ≡ replicate (m - k) a
  drop_replicate k m a l =
      let e : k + (m - k) ≡ m = omega arith in
      ap (λ (x : ℕ). drop k (replicate x a)) (sym e) ∙ ap (λ (t : List A). drop k t) (sym (replicate-append-replicate k (m - k) a))
      ∙ drop_at (replicate k a) (replicate (m - k) a) k (length-replicate k a)

  -- ---- a part of a list, as the code lends it: `&l[a..b]`

  abbrev pub part : ℕ → ℕ → List A → List A
  part a b l = take (b - a) (drop a l)

  pub length_part : (a b : ℕ) (l : List A) → a ≤ b → b ≤ length l → length (part a b l) ≡ b - a
  length_part a b l h g = length-take-le (b - a) (drop a l) (rw length-drop (omega arith))

  pub part_at : (a b : ℕ) (l : List A) (j : ℕ) (d : A) → j < b - a → get_or (part a b l) j d ≡ get_or l (a + j) d
  part_at a b l j d h = get_or-take (b - a) (drop a l) j d h ∙ get_or-drop a l j d

-- one place more of a buffer that is filled with one value from the front
pub filled_more : {A : Type 0} (k : ℕ) (v : A) (l : List A) → k < length l → set (replicate k v ++ drop k l) k v ≡ replicate (k + 1) v ++ drop (k + 1) l
filled_more {A} k v l h = rw add-one (more k l h)
  where
    more : (k : ℕ) (l : List A) → k < length l → set (replicate k v ++ drop k l) k v ≡ replicate (suc k) v ++ drop (suc k) l
    more k [] g = absurd (omega arith)
    more zero (x ∷ l) g = refl
    more (suc k) (x ∷ l) g = ap (λ (t : List A). v ∷ t) (more k l (omega arith))
