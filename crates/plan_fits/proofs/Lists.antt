-- What follows of specs/Lists.antt: its theorems, apart from the definitions.
use Rattle.std.specs.Prelude.{ℕ, ◌*◌, ◌≡◌, true, List}
use Rattle.std.proofs.Common.{arith}
use Rattle.matrix_shape.specs.Rows.{at}
use Rattle.plan_fits.specs.Fits.{plan_rules_ok, firsts_ok}
use Rattle.plan_fits.proofs.Fits.{firsts_is, planned_is}
use Rattle.plan_fits.specs.Lists.{Laid, Lows, Plan, row_low}

pub plan_of : (n : ℕ) (order inverse first starts : List ℕ) → Laid n order inverse first starts → plan_rules_ok n (at order) (at inverse) (at first)
    (at starts) ≡ true → Plan n order inverse first starts
plan_of n order inverse first starts l h = record { laid = l; planned = planned_is n (at order) (at inverse) (at first) (at starts) h }

pub lows_of : (n : ℕ) (order inverse first starts : List ℕ) → Laid n order inverse first starts → firsts_ok n (at first) ≡ true → Lows (2 * n) first starts
lows_of n order inverse first starts l h = record {
  few = omega (arith, l.few);
  firsts = l.firsts;
  begins = l.begins;
  low = row_low n (at first) (λ i g. let w = firsts_is n (at first) h i g in (w.0, w.1.1));
}
