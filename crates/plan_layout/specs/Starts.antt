-- WHERE THE ROWS OF AN ENVELOPE START, one behind the other: row q holds its columns from f q on to the diagonal, q - f q + 1 entries.
use Rattle.std.specs.Prelude.{ℕ, zero, suc, ◌+◌, ◌-◌, ◌*◌, ◌≤◌, ◌<◌, ◌≡◌, List, [], ◌∷◌, ◌++◌, get_or}
use Rattle.std.proofs.Math.Path.{sym}
use Rattle.std.proofs.Common.{ap, ◌∙◌, arith}
use Rattle.law.specs.Loop.{over}
use Rattle.law.proofs.Loop.{over_none, over_more, over_same}
use Rattle.law.specs.Gather.{table}
use Rattle.law.proofs.Gather.{gather_none, gather_more, table_at}
use Rattle.order_definition.specs.Envelope.{first_col, row_starts}

unfoldable pub start_at : (ℕ → ℕ) → ℕ → ℕ
start_at f r = over (λ q k. k + (q - f q + 1)) 0 r 0

module _ (f : ℕ → ℕ) where
  pub start_none : start_at f 0 ≡ 0
  unfolding start_at
  start_none = sym (over_none (λ q k. k + (q - f q + 1)) 0 0)

  pub start_more : (r : ℕ) → start_at f (r + 1) ≡ start_at f r + (r - f r + 1)
  unfolding start_at
  start_more r = sym (over_more (λ q k. k + (q - f q + 1)) 0 r 0 (omega arith))

  -- the two rows of a place, which start at one column
  pub start_two : (i b : ℕ) → f (2 * i) ≡ 2 * b → f (2 * i + 1) ≡ 2 * b → b ≤ i → start_at f (2 * (i + 1)) ≡ start_at f (2 * i) + (4 * i - 4 * b + 3)
  start_two i b p q l =
      let e : 2 * (i + 1) ≡ 2 * i + 1 + 1 = omega arith in
      rw e (omega (arith, start_more (2 * i), start_more (2 * i + 1)))

-- rows that start at the same columns start at the same places
pub start_same : (f g : ℕ → ℕ) (r : ℕ) → ((q : ℕ) → q < r → f q ≡ g q) → start_at f r ≡ start_at g r
unfolding start_at
start_same f g r h = over_same (λ q k. k + (q - f q + 1)) (λ q k. k + (q - g q + 1)) 0 r 0 (λ q k a b. ap (λ (c : ℕ). k + (q - c + 1)) (h q b))

-- the definition's list of row starts is their table
pub starts_are : (s c o : List ℕ) (m : ℕ) → row_starts s c o m ≡ table (start_at (first_col s c o)) (m + 1)
unfolding row_starts
starts_are s c o zero =
    let f = first_col s c o in
    ap (λ (k : ℕ). k ∷ []) (sym (start_none f)) ∙ ap (λ (l : List ℕ). l ++ (start_at f 0 ∷ [])) (gather_none (λ r. start_at f r ∷ []) 0)
    ∙ gather_more (λ r. start_at f r ∷ []) 0 0 (omega arith)
starts_are s c o (suc m) =
    let f = first_col s c o in
    let more : (l : List ℕ) → l ≡ table (start_at f) (m + 1) → l ++ ((get_or l m 0 + (m - f m + 1)) ∷ []) ≡ table (start_at f) (suc m + 1) =
    λ l e.
    let last : get_or l m 0 + (m - f m + 1) ≡ start_at f (m + 1) = ap (λ (t : List ℕ). get_or t m 0 + (m - f m + 1)) e ∙ ap (λ (k : ℕ). k + (m - f m + 1))
    (table_at (start_at f) (m + 1) m (omega arith)) ∙ sym (start_more f m) in
    let next : m + 1 + 1 ≡ suc m + 1 = omega arith in
    ap (λ (k : ℕ). l ++ (k ∷ [])) last ∙ ap (λ (t : List ℕ). t ++ (start_at f (m + 1) ∷ [])) e
    ∙ (rw next at (gather_more (λ r. start_at f r ∷ []) 0 (m + 1) (omega arith))) in
    more (row_starts s c o m) (starts_are s c o m)
