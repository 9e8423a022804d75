-- What follows of specs/Keep.antt: its theorems, apart from the definitions.
use Rattle.std.specs.Prelude.{ℕ, ◌+◌, ◌-◌, ◌≤◌, ◌<◌, ◌≡◌, refl, Bool, true, false, List, [], ◌∷◌, ◌++◌, length, get_or}
use Rattle.std.proofs.Common.{ap, sym, ◌∙◌, append-nil, ⊎_elim, arith, add-zero, length-append}
use Rattle.law.proofs.Loop.{from}
use Rattle.law.specs.Truth.{below_or}
use Rattle.law.specs.Gather.{up_to}
use Rattle.law.proofs.Gather.{gather_more, gather_split, gather_same, gather_at, gather_in, up_to_more, up_to_rise}
use Rattle.law.specs.Keep.{keep, one, only_if, rank}

module _ (p : ℕ → Bool) where
  -- a number that passes stands at the place that is its rank
  pub keep_has : (n c : ℕ) → c < n → p c ≡ true → (rank p c < rank p n) × (get_or (keep p 0 n) (rank p c) 0 ≡ c)
  keep_has n c l h =
      let g : ℕ → List ℕ = λ c. only_if (p c) c in
      let o : length (only_if (p c) c) ≡ 1 = rw h in
      let e : get_or (only_if (p c) c) 0 0 ≡ c = rw h in
      let z : up_to g c + 0 ≡ up_to g c = add-zero _ in
      (omega (arith, up_to_more g c, up_to_rise g (c + 1) n (omega arith)), rw z at (gather_at g n c 0 0 l (omega arith) ∙ e))

  -- what stands at a place passes, and the place is its rank
  pub keep_at : (n k : ℕ) → k < rank p n → (c : ℕ) × ((c < n) × ((p c ≡ true) × ((k ≡ rank p c) × (get_or (keep p 0 n) k 0 ≡ c))))
  keep_at n k h =
      let g : ℕ → List ℕ = λ c. only_if (p c) c in
      let t = gather_in g n k h in
      let c = t.0 in
      let o = (one p) (p c) c (k - up_to g c) (omega (arith, up_to_more g c, t.1.1.0, t.1.1.1)) in
      let e : k ≡ rank p c = omega (arith, o.1, t.1.1.0) in
      (c, (t.1.0, (o.0, (e, ap (λ (x : ℕ). get_or (keep p 0 n) x 0) e ∙ (keep_has n c t.1.0 o.0).1))))

  pub keep_rise : (n k : ℕ) → k + 1 < rank p n → get_or (keep p 0 n) k 0 < get_or (keep p 0 n) (k + 1) 0
  keep_rise n k h =
      let g : ℕ → List ℕ = λ c. only_if (p c) c in
      let s = keep_at n k (omega arith) in
      let t = keep_at n (k + 1) h in
      let less : s.0 < t.0 = ⊎_elim (λ l. l) (λ l. absurd (omega (arith, up_to_rise g t.0 s.0 l, s.1.1.1.0, t.1.1.1.0)))
      (below_or s.0 t.0) in
      rw (s.1.1.1.1, t.1.1.1.1) less

  -- a range one longer
  pub keep_in : (a c : ℕ) → a ≤ c → p c ≡ true → keep p a c ++ (c ∷ []) ≡ keep p a (c + 1)
  keep_in a c l h = ap (λ (t : Bool). keep p a c ++ only_if t c) (sym h) ∙ gather_more (λ c. only_if (p c) c) a c l

  pub keep_out : (a c : ℕ) → a ≤ c → p c ≡ false → keep p a c ≡ keep p a (c + 1)
  keep_out a c l h = sym (append-nil (keep p a c)) ∙ ap (λ (t : Bool). keep p a c ++ only_if t c) (sym h) ∙ gather_more (λ c. only_if (p c) c) a c l

  -- a range longer by numbers of which none passes
  pub keep_skip : (a c d : ℕ) → a ≤ c → c ≤ d → ((x : ℕ) → c ≤ x → x < d → p x ≡ false) → keep p a c ≡ keep p a d
  keep_skip a c d l m =
      from (λ d. ((x : ℕ) → c ≤ x → x < d → p x ≡ false) → keep p a c ≡ keep p a d) c (λ _. refl)
      (λ k q ih h. ih (λ x u v. h x u (omega arith)) ∙ keep_out a k (omega arith) (h k q (omega arith))) d m

  -- a range in two parts
  pub keep_halves : (a c d : ℕ) → a ≤ c → c ≤ d → length (keep p a d) ≡ length (keep p a c) + length (keep p c d)
  keep_halves a c d l m = ap length (gather_split (λ c. only_if (p c) c) a c d l m) ∙ length-append (keep p a c) (keep p c d)

  -- a number that passes comes behind those before it
  pub keep_room : (a c d : ℕ) → a ≤ c → c < d → p c ≡ true → length (keep p a c) < length (keep p a d)
  keep_room a c d l m h =
      omega (arith, ap length (keep_in a c l h), length-append (keep p a c) (c ∷ []), keep_halves a (c + 1) d (omega arith) (omega arith))

-- tests that agree on a range keep the same numbers of it
pub keep_same : (p q : ℕ → Bool) (a b : ℕ) → a ≤ b → ((k : ℕ) → a ≤ k → k < b → p k ≡ q k) → keep p a b ≡ keep q a b
keep_same p q a b h e = gather_same (λ c. only_if (p c) c) (λ c. only_if (q c) c) a b h (λ k l m. ap (λ (t : Bool). only_if t k) (e k l m))
