-- THE TEST OF ROWS AND MIRRORS IN ONE WALK. Each row has a cursor, which starts behind the row's diagonal. The rows are walked upwards, and each
-- block below the diagonal must meet its mirror at the cursor of its column's row, which then goes on by one. Where that is so of all, and every
-- cursor has come to its row's end, the rows above the diagonal need no test of their own: once the row starts have passed, the walk's answer is the
-- pattern's.
use Rattle.std.specs.Prelude.{ℕ, ◌+◌, Bool, ◌&&◌}
use Rattle.std.proofs.Math.Dec.{ltb, eqb}
use Rattle.law.specs.Every.{every, some}
use Rattle.law.specs.Sum.{sum, bit}
use Rattle.matrix_shape.specs.Formed.{slot_ok, home_ok}

-- one of the slots a..b has the column j
abbrev pub has : (ℕ → ℕ) → ℕ → ℕ → ℕ → Bool
has c a b j = some (λ k. eqb (c k) j) a b

-- where row j's cursor stands once r rows have been walked
unfoldable pub cursor : (ℕ → ℕ) → (ℕ → ℕ) → (ℕ → ℕ) → ℕ → ℕ → ℕ
cursor s c d r j = d j + 1 + sum (λ q. bit (has c (s q) (d q) j)) r

-- at f, one of m slots, stands the column r
unfoldable pub meet_ok : ℕ → (ℕ → ℕ) → ℕ → ℕ → Bool
meet_ok m c f r = ltb f m && eqb (c f) r

-- slot k of row r before its diagonal's, with cursors f: it is above the one before it and below the diagonal, and meets its mirror
unfoldable pub pair_ok : ℕ → (ℕ → ℕ) → (ℕ → ℕ) → ℕ → ℕ → ℕ → Bool
pair_ok m c f a r k = slot_ok r c a k && meet_ok m c (f (c k)) r

unfoldable pub line_ok : ℕ → (ℕ → ℕ) → (ℕ → ℕ) → (ℕ → ℕ) → ℕ → Bool
line_ok m s c d r = home_ok c (s r) (s (r + 1)) (d r) r && every (pair_ok m c (cursor s c d r) (s r) r) (s r) (d r)

abbrev pub end_ok : (ℕ → ℕ) → (ℕ → ℕ) → ℕ → Bool
end_ok f s r = eqb (f r) (s (r + 1))

unfoldable pub walk_ok : ℕ → ℕ → (ℕ → ℕ) → (ℕ → ℕ) → (ℕ → ℕ) → Bool
walk_ok n m s c d = every (line_ok m s c d) 0 n && every (end_ok (cursor s c d n) s) 0 n
