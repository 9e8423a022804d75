-- THE BLOCKS INSIDE, FROM ONE SIDE: of each two blocks that mirror each other the one before its row's diagonal tells both rows. A row never starts
-- past its own diagonal, so a block whose place is above the diagonal needs no case of its own.
use Rattle.std.specs.Prelude.{ℕ, ◌*◌, ◌≤◌, ◌<◌, ◌≡◌, refl, Bool, true, ◌&&◌, List, leb, length}
use Rattle.std.proofs.Common.{ap, ◌∙◌, ⊎_elim, arith}
use borrow.Author.Tests.{leb-true, le-leb}
use Rattle.law.specs.Truth.{both, and_true, below_or, alike}
use Rattle.law.specs.Every.{every}
use Rattle.law.proofs.Every.{every_at, every_of}
use Rattle.matrix_shape.specs.Formed.{InRow, Stored, WellFormed}
use Rattle.matrix_shape.specs.Rows.{at, Pattern, row_end, later}
use Rattle.plan_fits.specs.Fits.{PlanRules, Inside, inside_ok}
use Rattle.plan_fits.proofs.Fits.{inside_is, inside_of}
use Rattle.plan_fits.specs.Lists.{Placed}

-- slot k of a row at position i, whose rows start at column a: the block lies inside, and so does its mirror
unfoldable pub two_ok : (ℕ → ℕ) → (ℕ → ℕ) → (ℕ → ℕ) → ℕ → ℕ → ℕ → Bool
two_ok c p f i a k = leb a (2 * p (c k)) && leb (f (2 * p (c k))) (2 * i)

unfoldable pub half_ok : (ℕ → ℕ) → (ℕ → ℕ) → (ℕ → ℕ) → (ℕ → ℕ) → (ℕ → ℕ) → ℕ → Bool
half_ok t c d p f r = every (two_ok c p f (p r) (f (2 * p r))) (t r) (d r)

module _ (n m : ℕ) (t c d : ℕ → ℕ) (w : WellFormed n m t c d) (o p f s : ℕ → ℕ) (q : PlanRules n o p f s) where
  -- a block that lies inside, wherever it stands
  within : Inside n t c p f → (r col : ℕ) → r < n → Stored t c r col → f (2 * p r) ≤ 2 * p col
  within h r col l k = ⊎_elim (λ g. omega (arith, q.most (p r) (q.position r l))) (λ g. h r col l k g) (below_or (p r) (p col))

  to : inside_ok n t c p f ≡ true → every (half_ok t c d p f) 0 n ≡ true
  unfolding half_ok two_ok
  to h =
      let i = within (inside_is n t c p f h) in
      every_of (half_ok t c d p f) 0 n (λ r _ l. every_of (two_ok c p f (p r) (f (2 * p r))) (t r) (d r) (λ k a b.
      let k' : InRow t r k = (a, omega (arith, (w.home r l).0.1)) in
      and_true (leb (f (2 * p r)) (2 * p (c k))) (leb (f (2 * p (c k))) (2 * p r)) (le-leb _ _ (i r (c k) l (k, (k', refl))))
      (le-leb _ _ (i (c k) r (w.below r k l k') (w.mirrored r (c k) l (k, (k', refl)))))))

  module _ (h : every (half_ok t c d p f) 0 n ≡ true) where
    two : (r k : ℕ) → r < n → t r ≤ k → k < d r → (f (2 * p r) ≤ 2 * p (c k)) × (f (2 * p (c k)) ≤ 2 * p r)
    unfolding half_ok two_ok
    two r k l a b =
        let z = both (leb (f (2 * p r)) (2 * p (c k))) (leb (f (2 * p (c k))) (2 * p r)) (every_at (two_ok c p f (p r) (f (2 * p r))) (t r) (d r)
        (every_at (half_ok t c d p f) 0 n h r (omega arith) l) k a b) in
        (leb-true _ _ z.0, leb-true _ _ z.1)

    slot : (r k : ℕ) → r < n → InRow t r k → f (2 * p r) ≤ 2 * p (c k)
    slot r k l i =
        ⊎_elim (λ g. (two r k l i.0 g).0)
        (λ g. ⊎_elim
        (λ (y : d r < k).
        let hr = w.home r l in
        let x = w.below r k l i in
        let hx = w.home (c k) x in
        let u = w.mirrored r (c k) l (k, (i, refl)) in
        let e = later n m t c d w r l (d r) k hr.0.0 y i.1 in
        let v : u.0 < d (c k) =
        ⊎_elim (λ z. z)
        (λ (y' : d (c k) ≤ u.0). ⊎_elim
        (λ z. absurd (omega (arith, later n m t c d w (c k) x (d (c k)) u.0 hx.0.0 z u.1.0.1, hx.1, hr.1, u.1.1, e)))
        (λ (z : u.0 ≤ d (c k)). absurd (let a : u.0 ≡ d (c k) = omega arith in omega (arith, ap c a, hx.1, hr.1, u.1.1, e)))
        (below_or (d (c k)) u.0)) (below_or u.0 (d (c k))) in
        rw u.1.1 at (two (c k) u.0 x u.1.0.0 v).1)
        (λ (y : k ≤ d r). let e : k ≡ d r = omega arith in let z : c k ≡ r = ap c e ∙ (w.home r l).1 in rw z (q.most (p r) (q.position r l)))
        (below_or (d r) k)) (below_or k (d r))

    back : inside_ok n t c p f ≡ true
    back = inside_of n t c p f (λ r col l k _. rw k.1.1 at (slot r k.0 l k.1.0))

  pub half_is : every (half_ok t c d p f) 0 n ≡ inside_ok n t c p f
  half_is = alike _ _ back to

-- ---- what the code needs

-- the slots a..b of a row, each one's column a particle whose position has its rows
pub record Lefts (cols inverse first : List ℕ) (a b i : ℕ) : Type 0 where
  pub order : a ≤ b
  pub columns : b ≤ length cols
  pub marks : (k : ℕ) → a ≤ k → k < b → at cols k < length inverse
  pub firsts : (k : ℕ) → a ≤ k → k < b → 2 * at inverse (at cols k) < length first
  pub few : i < 4294967296

pub lefts_of : (n : ℕ) (starts cols diagonal inverse first : List ℕ) → Pattern n starts cols diagonal → Placed n inverse first → (r : ℕ) → r < n
    → Lefts cols inverse first (at starts r) (at diagonal r) (at inverse r)
lefts_of n starts cols diagonal inverse first w p r l =
    let h = w.formed.home r l in
    let e = row_end n (at starts) w.formed.rise r l in
    let below : (k : ℕ) → at starts r ≤ k → k < at diagonal r → at cols k < n = λ k a b. w.formed.below r k l (a, omega (arith, h.0.1)) in
    record {
      order = h.0.0;
      columns = omega (arith, h.0.1, w.held.columns);
      marks = λ k a b. omega (arith, below k a b, p.marks);
      firsts = λ k a b. omega (arith, p.position (at cols k) (below k a b), p.firsts);
      few = omega (arith, p.position r l, w.few);
    }
