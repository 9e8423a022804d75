-- A PLAN THAT FITS, CARRIED OVER: the sentences speak of the places that a plan fills alone, so lists that agree there fit too.
use Rattle.std.specs.Prelude.{ℕ, ◌+◌, ◌*◌, ◌≤◌, ◌<◌, ◌≡◌}
use Rattle.std.proofs.Common.{sym, ◌∙◌, arith}
use Rattle.matrix_shape.specs.Formed.{Stored}
use Rattle.plan_fits.specs.Fits.{PlanRules, Fits}

-- the plan x, y, g, v agrees with o, p, f, s
pub record Same (n : ℕ) (o p f s x y g v : ℕ → ℕ) : Type 0 where
  pub order : (i : ℕ) → i < n → x i ≡ o i
  pub inverse : (q : ℕ) → q < n → y q ≡ p q
  pub first : (r : ℕ) → r < 2 * n → g r ≡ f r
  pub rows : (r : ℕ) → r ≤ 2 * n → v r ≡ s r

module _ {n : ℕ} {o p f s x y g v : ℕ → ℕ} (e : Same n o p f s x y g v) where
  planned_same : PlanRules n o p f s → PlanRules n x y g v
  planned_same w = record {
    particle = λ i l. rw (e.order i l) (w.particle i l);
    back = λ i l. rw (e.order i l, e.inverse (o i) (w.particle i l)) (w.back i l);
    position = λ q l. rw (e.inverse q l) (w.position q l);
    forth = λ q l. rw (e.inverse q l, e.order (p q) (w.position q l)) (w.forth q l);
    same = λ i l. e.first (2 * i) (omega arith) ∙ w.same i l ∙ sym (e.first (2 * i + 1) (omega arith));
    even = λ i l. rw (e.first (2 * i) (omega arith)) (w.even i l);
    most = λ i l. rw (e.first (2 * i) (omega arith)) (w.most i l);
    begins = e.rows 0 (omega arith) ∙ w.begins;
    grow = λ r l. rw (e.rows (r + 1) (omega arith), e.rows r (omega arith), e.first r l) (w.grow r l);
  }

  -- the pattern's columns are below n
  pub fits_same : {t c : ℕ → ℕ} → ((r col : ℕ) → r < n → Stored t c r col → col < n) → Fits n t c o p f s → Fits n t c x y g v
  fits_same {t} {c} below w = record {
    planned = planned_same w.planned;
    inside = λ r col l h m.
        let k = below r col l h in
        rw (e.inverse r l, e.inverse col k, e.first (2 * p r) (omega (arith, w.planned.position r l)))
        (w.inside r col l h (rw (e.inverse r l, e.inverse col k) at m));
  }
