-- A WHOLE ROW out of its chain: the columns below the diagonal, the diagonal, and those above it; and the rows one after the other.
use Rattle.std.specs.Prelude.{ℕ, ◌+◌, ◌*◌, ◌≤◌, ◌<◌, ◌≡◌, Bool, not, ◌&&◌, List, [], ◌∷◌, ◌++◌, get_or, set, eqb}
use Rattle.std.proofs.Math.Path.{refl, ap}
use Rattle.std.proofs.Common.{sym, ◌∙◌, arith, length-append}
use Rattle.std.proofs.Math.Bool.{true, false}
use Rattle.std.proofs.Math.ListN.{length}
use borrow.Author.Tests.{eqb-false, ne_eqb, not-true}
use Rattle.law.specs.Truth.{both}
use Rattle.law.specs.Gather.{up_to}
use Rattle.law.proofs.Gather.{gather_split}
use Rattle.law.specs.Keep.{only_if, keep, rank}
use Rattle.law.proofs.Keep.{keep_in, keep_same}
use Rattle.law.specs.Store.{written, written_append, written_one}
use Rattle.matrix_shape.specs.Made.{row_of, start_of, starts_of, cols_of, slots_of}
use Rattle.matrix_pairs.specs.Pairs.{joined, stored_by, own}
use Rattle.matrix_lists.specs.Ways.{apart}
use Rattle.matrix_lists.specs.Chain.{Chain}
use Rattle.matrix_lists.specs.Turned.{AllTurned}
use Rattle.matrix_build.specs.Swept.{Apart}

-- what storing row r needs: room, and the row's chain, whose name stands where the diagonal's slot comes to stand
pub record Filling (n count : ℕ) (pairs links : List ℕ) (r slot : ℕ) (starts cols diagonal : List ℕ) : Type 0 where
  pub row : r < n
  pub links_long : 2 * count ≤ length links
  pub starts_long : r < length starts
  pub cols_long : slot + length (row_of n (stored_by pairs count) r) ≤ length cols
  pub slots_small : slot + length (row_of n (stored_by pairs count) r) < 4294967296
  pub diagonal_long : r < length diagonal
  pub chain : Chain n count pairs links r (Apart count pairs r) (get_or diagonal r 0) 0

-- what storing row r leaves
pub record Filled (n : ℕ) (p : ℕ → ℕ → Bool) (r slot : ℕ) (starts cols diagonal : List ℕ) (slot' : ℕ) (starts' cols' diagonal' : List ℕ) : Type 0 where
  pub behind : slot' ≡ slot + length (row_of n p r)
  pub begins : starts' ≡ set starts r slot
  pub stored : cols' ≡ written cols slot (row_of n p r)
  pub marked : diagonal' ≡ set diagonal r (slot + rank (p r) r)

module _ (count : ℕ) (pairs : List ℕ) (r : ℕ) where
  same : (c : ℕ) → (c ≡ r → ⊥) → apart pairs count r c ≡ stored_by pairs count r c
  unfolding apart stored_by
  same c ne = rw (ne_eqb c r ne, ne_eqb r c (λ e. ne (sym e))) (and_so (joined pairs count r c))
    where
      and_so : (t : Bool) → (t && true) ≡ t
      and_so true = refl
      and_so false = refl

  -- r itself is no link of its chain
  pub never : apart pairs count r r ≡ true → ⊥
  unfolding apart
  never h = eqb-false r r (not-true (eqb r r) (both (joined pairs count r r) (not (eqb r r)) h).1) refl

  below : keep (apart pairs count r) 0 r ≡ keep (stored_by pairs count r) 0 r
  below = keep_same (apart pairs count r) (stored_by pairs count r) 0 r (omega arith) (λ c u v. same c (λ e. omega arith))

  pub row_rank : length (keep (apart pairs count r) 0 r) ≡ rank (stored_by pairs count r) r
  unfolding up_to
  row_rank = ap length below

  module _ (n : ℕ) (l : r < n) where
    row_parts : (keep (apart pairs count r) 0 r ++ (r ∷ [])) ++ keep (apart pairs count r) (r + 1) n ≡ row_of n (stored_by pairs count) r
    unfolding row_of
    row_parts =
        let p = stored_by pairs count r in
        rw (
          below,
          keep_same (apart pairs count r) p (r + 1) n (omega arith) (λ c u v. same c (λ e. omega arith)),
          keep_in p 0 r (omega arith)
              (own pairs count r),
        )
        (sym (gather_split (λ c. only_if (p c) c) 0 (r + 1) n (omega arith) (omega arith)))

    pub row_length : length (row_of n (stored_by pairs count) r) ≡ (length (keep (apart pairs count r) 0 r) + 1) + length (keep (apart pairs count r) (r + 1) n)
    row_length = ap length (sym row_parts) ∙ rw (length-append, length-append)

    pub row_stored : (cols : List ℕ) (slot : ℕ) → let low = keep (apart pairs count r) 0 r in
        written (set (written cols slot low) (slot + length low) r) ((slot + length low) + 1) (keep (apart pairs count r) (r + 1) n) ≡ written cols
        slot (row_of n (stored_by pairs count) r)
    row_stored cols slot =
        let low = keep (apart pairs count r) 0 r in
        let e : slot + length (low ++ (r ∷ [])) ≡ (slot + length low) + 1 = rw length-append (omega arith) in
        rw (written_one cols slot low r, ← e) (written_append cols slot (low ++ (r ∷ [])) (keep (apart pairs count r) (r + 1) n)
        ∙ ap (λ (t : List ℕ). written cols slot t) row_parts)

-- ---- all rows

-- what storing the rows needs
pub record Unfilled (n count : ℕ) (pairs links starts cols diagonal : List ℕ) : Type 0 where
  pub links_long : 2 * count ≤ length links
  pub starts_long : length starts ≡ n + 1
  pub cols_long : start_of n (stored_by pairs count) n ≤ length cols
  pub slots_small : start_of n (stored_by pairs count) n < 4294967296
  pub diagonal_long : length diagonal ≡ n
  pub listed : AllTurned n count pairs diagonal links

-- and leaves
pub record AllFilled (n : ℕ) (p : ℕ → ℕ → Bool) (cols : List ℕ) (slot : ℕ) (starts' cols' diagonal' : List ℕ) : Type 0 where
  pub behind : slot ≡ start_of n p n
  pub begins : starts' ≡ starts_of n p
  pub stored : cols' ≡ written cols 0 (cols_of n p)
  pub marked : diagonal' ≡ slots_of n p
