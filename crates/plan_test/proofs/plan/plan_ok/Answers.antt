use Prim.Native.Nat.{ℕ, ◌*◌, ◌≤◌}
use mathlib.Core.Path.{◌≡◌}
use lib.Dec.{eqb}
use Rattle.law.specs.Every.{every}
use mathlib.Core.Bool.{true, false, ◌&&◌}
use Rattle.law.specs.Limit.{particles}
use Rattle.law.specs.Truth.{both}
use Rattle.plan_fits.specs.Fits.{undo_ok, firsts_ok, plan_rules_ok}
use Rattle.plan_fits.proofs.Lists.{lows_of}
use Rattle.plan_test.specs.Quick.{step_ok}
use Rattle.plan_test.proofs.Quick.{quick_is}
use Rattle.plan_test.proofs.plan.plan_ok.Goals as goal

-- the tests of order and first columns, and then those of the row starts
passes : (n : ℕ) (o p f s : ℕ → ℕ) → (undo_ok n o p && firsts_ok n f) ≡ true → n ≤ particles
    → (eqb (s 0) 0 && every (step_ok f s) 0 (2 * n)) ≡ plan_rules_ok n o p f s
passes n o p f s t few = rw t at (quick_is n o p f s few)

refuses : (n : ℕ) (o p f s : ℕ → ℕ) → (undo_ok n o p && firsts_ok n f) ≡ false → n ≤ particles → false ≡ plan_rules_ok n o p f s
refuses n o p f s t few = rw t at (quick_is n o p f s few)

pub steps_ok-requires : goal.steps_ok-requires
steps_ok-requires c = lows_of _ _ _ _ _ c.requires
    (both (undo_ok _ _ _) _ (rw (c.undoes.ensures, c.firsts_ok.ensures) at c.if-ok.true)).1

pub returns-then-ok : goal.returns-then-ok
returns-then-ok c = rw c.steps_ok.ensures
    (passes _ _ _ _ _ (rw (c.undoes.ensures, c.firsts_ok.ensures) at c.if-ok.true) c.requires.few)

pub returns-else-ok : goal.returns-else-ok
returns-else-ok c = rw c.if-ok.false (refuses _ _ _ _ _ (rw (c.undoes.ensures, c.firsts_ok.ensures) at c.if-ok.false) c.requires.few)
